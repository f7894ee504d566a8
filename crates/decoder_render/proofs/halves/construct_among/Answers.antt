use Rattle.std.proofs.Common.{◌≡◌, ◌+◌, ◌-◌, ◌≤◌, ℕ, List, length, arith}
use Rattle.cb_types.specs.declared.macroblock.Macroblock.{Macroblock}
use Rattle.recon.specs.References.{pictures_of}
use Rattle.recon.specs.Slice.{slice_of}
use Rattle.decoder_render.specs.Parsed.{slice_at, start_of}
use Rattle.decoder_render.proofs.ConstructedLemmas.{constructed_behind, part_room, slice_behind}
use Rattle.decoder_render.proofs.HalvesLemmas.{starts_in_order}
use Rattle.decoder_render.proofs.halves.construct_among.Goals as goal

pub overflow_sub-first : goal.overflow_sub-first
overflow_sub-first c = let order = starts_in_order c.args.source.slices.now c.args.from c.args.number c.requires.number in omega (arith, order, c.requires.slice.first, c.requires.first.first)

pub overflow_sub-end : goal.overflow_sub-end
overflow_sub-end c = let order = starts_in_order c.args.source.slices.now c.args.from c.args.number c.requires.number in omega (arith, order, c.requires.slice.first, c.requires.first.first)

pub overflow_sub-first-2 : goal.overflow_sub-first-2
overflow_sub-first-2 c = let order = starts_in_order c.args.source.slices.now c.args.from c.args.number c.requires.number in omega (arith, order, c.requires.slice.first, c.requires.first.first)

pub overflow_sub-end-2 : goal.overflow_sub-end-2
overflow_sub-end-2 c = let order = starts_in_order c.args.source.slices.now c.args.from c.args.number c.requires.number in omega (arith, order, c.requires.slice.first, c.requires.first.first)

pub construct_slice-requires-clause-slice : goal.construct_slice-requires-clause-slice
construct_slice-requires-clause-slice c =
    let source = c.args.source in
    let slice = slice_at source.slices.now c.args.number in
    let first : ℕ = slice.header.first_mb in
    let count : ℕ = slice.count in
    slice_behind (λ (mbs : List Macroblock). slice_of source.info.now slice.header slice.list.entries (pictures_of source.refs.now) source.size mbs) source.macroblocks.now
    first (start_of source.slices.now c.args.number) count (first + count - first) (omega arith) c.requires.slice.first c.requires.slice.slice

pub construct_slice-requires-clause-marks : goal.construct_slice-requires-clause-marks
construct_slice-requires-clause-marks c =
    let source = c.args.source in
    let slice = slice_at source.slices.now c.args.number in
    let first : ℕ = slice.header.first_mb in
    let base : ℕ = (slice_at source.slices.now c.args.from).header.first_mb in
    let count : ℕ = slice.count in
    let order = starts_in_order source.slices.now c.args.from c.args.number c.requires.number in
    part_room c.args.marks.now (first - base) count (first + count - base - (first - base)) (omega (arith, order, c.requires.slice.first, c.requires.first.first))
    (omega (arith, order, c.requires.marks, c.requires.slice.first, c.requires.first.first))

pub construct_slice-requires-clause-tiles : goal.construct_slice-requires-clause-tiles
construct_slice-requires-clause-tiles c =
    let source = c.args.source in
    let slice = slice_at source.slices.now c.args.number in
    let first : ℕ = slice.header.first_mb in
    let base : ℕ = (slice_at source.slices.now c.args.from).header.first_mb in
    let count : ℕ = slice.count in
    let order = starts_in_order source.slices.now c.args.from c.args.number c.requires.number in
    part_room c.args.into.now (first - base) count (first + count - base - (first - base)) (omega (arith, order, c.requires.slice.first, c.requires.first.first))
    (omega (arith, order, c.requires.marks, c.requires.tiles, c.requires.slice.first, c.requires.first.first))

pub returns : goal.returns
returns c =
    let source = c.args.source in
    let slice = slice_at source.slices.now c.args.number in
    let first : ℕ = slice.header.first_mb in
    let base : ℕ = (slice_at source.slices.now c.args.from).header.first_mb in
    let count : ℕ = slice.count in
    let order = starts_in_order source.slices.now c.args.from c.args.number c.requires.number in
    let long : first + count - base - (first - base) ≡ count = omega (arith, order, c.requires.slice.first, c.requires.first.first) in
    let room : first - base + count ≤ length c.args.marks.now = omega (arith, order, c.requires.marks, c.requires.slice.first, c.requires.first.first) in
    constructed_behind (λ (mbs : List Macroblock). slice_of source.info.now slice.header slice.list.entries (pictures_of source.refs.now) source.size mbs) source.macroblocks.now
    first base (start_of source.slices.now c.args.number) (start_of source.slices.now c.args.from) count (first + count - first) (first + count - base - (first - base))
    c.args.marks.now c.construct_slice.new.marks c.args.into.now c.construct_slice.new.into c.construct_slice.result
    (omega arith) long c.requires.slice.first c.requires.first.first room (omega (arith, room, c.requires.tiles))
    c.construct_slice.auto.marks c.construct_slice.auto.into c.construct_slice.ensures.rebuilt c.construct_slice.ensures.whole
