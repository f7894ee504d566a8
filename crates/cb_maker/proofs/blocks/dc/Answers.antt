use Rattle.std.proofs.Common.{ap, ◌≤◌, length, ℤ, pos, List, get_or, rules}
use Rattle.std.proofs.lemmas.Int.{to_z-of_z}
use Rattle.cb_maker.proofs.Drawing.{after}
use mir.Syntax.{w32}
use mir.Val.{SFits}
use Rattle.cb_types.specs.declared.macroblock.DcLevels.{DcLevels}
use Rattle.cb_maker.proofs.Arrays.{first_four}
use Rattle.cb_maker.specs.Blocks.{drawn_dc}
use Rattle.cb_maker.proofs.blocks.dc.Goals as goal

pub returns : goal.returns
unfolding drawn_dc
returns c =
    let levels = c.block-levels.result in
    let long : 4 ≤ length levels = search rules in
    let f0 : SFits w32 (get_or levels 0 (pos 0)) = search rules in
    let f1 : SFits w32 (get_or levels 1 (pos 0)) = search rules in
    let f2 : SFits w32 (get_or levels 2 (pos 0)) = search rules in
    let f3 : SFits w32 (get_or levels 3 (pos 0)) = search rules in
    after _ _ _ _ _ _ c.block-levels.ensures (ap (λ (s : List ℤ). let dc : DcLevels = record { 0 = s } in (dc, c.block-levels.new.draws.state))
    (first_four levels _ _ _ _ (pos 0) long (to_z-of_z w32 _ f0) (to_z-of_z w32 _ f1) (to_z-of_z w32 _ f2) (to_z-of_z w32 _ f3)))
