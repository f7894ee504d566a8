use Rattle.std.proofs.Common.{ℕ, ◌+◌, ◌-◌, List, arith}
use Rattle.cb_types.specs.declared.macroblock.Macroblock.{Macroblock}
use Rattle.recon.specs.References.{pictures_of}
use Rattle.recon.specs.Slice.{slice_of}
use Rattle.decoder_render.proofs.ConstructedLemmas.{constructed}
use Rattle.decoder_render.proofs.construction.construct_at.Goals as goal

pub returns : goal.returns
returns c =
    let slice = c.args.slice.now in
    let first : ℕ = slice.header.first_mb in
    let count : ℕ = slice.count in
    constructed (λ (mbs : List Macroblock). slice_of c.args.info.now slice.header slice.list.entries (pictures_of c.args.refs.now) c.args.size mbs) c.args.macroblocks.now first count (first + count - first)
    c.args.marks.now c.construct_slice.new.marks c.args.into.now c.construct_slice.new.into c.construct_slice.result
    (omega arith) c.requires.marks c.requires.tiles c.construct_slice.auto.marks c.construct_slice.auto.into c.construct_slice.ensures.rebuilt c.construct_slice.ensures.whole
