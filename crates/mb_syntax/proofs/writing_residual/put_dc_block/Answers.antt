use Rattle.std.proofs.Common.{rules, ◌≡◌, ◌++◌, OnOk, SFits, w32, to_z-of_z, get_or, subst, sym, pos, negsuc, ℤ, List}
use Rattle.cavlc.specs.Blocks.{HasSpelling, block_bits}
use Rattle.mb_syntax.proofs.BlockLemmas.{dc_levels}
use Rattle.mb_syntax.proofs.writing_residual.put_dc_block.Goals as goal

pub write_block-requires : goal.write_block-requires
write_block-requires c =
    let four = c.args.levels.now.0 in
    let fits_0 : SFits w32 (get_or four 0 (pos 0)) = search rules in
    let fits_1 : SFits w32 (get_or four 1 (pos 0)) = search rules in
    let fits_2 : SFits w32 (get_or four 2 (pos 0)) = search rules in
    let fits_3 : SFits w32 (get_or four 3 (pos 0)) = search rules in
    rw (to_z-of_z fits_0, to_z-of_z fits_1, to_z-of_z fits_2, to_z-of_z fits_3) (subst (HasSpelling (negsuc 0) 4) (sym (dc_levels four c.requires.size)) c.requires)

pub returns-clause-ok : goal.returns-clause-ok
returns-clause-ok c =
    let four = c.args.levels.now.0 in
    let fits_0 : SFits w32 (get_or four 0 (pos 0)) = search rules in
    let fits_1 : SFits w32 (get_or four 1 (pos 0)) = search rules in
    let fits_2 : SFits w32 (get_or four 2 (pos 0)) = search rules in
    let fits_3 : SFits w32 (get_or four 3 (pos 0)) = search rules in
    subst (λ (x : List ℤ). OnOk c.write_block.result (c.write_block.new.out ≡ c.args.out.now ++ block_bits (negsuc 0) 4 x)) (dc_levels four c.requires.size)
    (rw (to_z-of_z fits_0, to_z-of_z fits_1, to_z-of_z fits_2, to_z-of_z fits_3) at c.write_block.ensures.ok)
