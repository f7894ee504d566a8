use Rattle.std.proofs.Common.{rules, ◌≡◌, ◌++◌, SFits, w32, to_z-of_z, get_or, subst, sym, pos, negsuc, ℤ, List}
use Rattle.cavlc.specs.Blocks.{HasSpelling, block_bits}
use Rattle.mb_syntax.proofs.BlockLemmas.{dc_whole}
use Rattle.mb_syntax.proofs.residual.read_dc_block.Goals as goal

pub returns-clause-reads : goal.returns-clause-reads
returns-clause-reads c =
    let into = c.read_block_into.new.into in
    let read = c.in_ok-read_block_into.ensures.reads in
    let fits_0 : SFits w32 (get_or into 0 (pos 0)) = search rules in
    let fits_1 : SFits w32 (get_or into 1 (pos 0)) = search rules in
    let fits_2 : SFits w32 (get_or into 2 (pos 0)) = search rules in
    let fits_3 : SFits w32 (get_or into 3 (pos 0)) = search rules in
    rw (to_z-of_z fits_0, to_z-of_z fits_1, to_z-of_z fits_2, to_z-of_z fits_3)
    (subst (λ (x : List ℤ). HasSpelling (negsuc 0) 4 x × (c.args.reader.now ≡ block_bits (negsuc 0) 4 x ++ c.read_block_into.new.reader)) (sym (dc_whole (negsuc 0) into read.0)) read)
