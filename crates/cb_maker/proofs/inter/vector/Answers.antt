use Rattle.std.proofs.Common.{sym, ℤ, rules}
use Rattle.cb_maker.proofs.Drawing.{after}
use mir.Syntax.{w32}
use mir.Val.{SFits}
use Rattle.std.proofs.Common.{ap₂}
use Rattle.std.proofs.lemmas.Int.{to_z-of_z}
use Rattle.cb_types.specs.declared.macroblock.Vector.{Vector}
use Rattle.cb_maker.specs.Kinds.{drawn_vector}
use Rattle.cb_maker.proofs.inter.vector.Goals as goal

pub returns : goal.returns
unfolding drawn_vector
returns c =
    let x = c.draw_around-x.result in
    let y = c.draw_around-y.result in
    let fits_x : SFits w32 x = search rules in
    let fits_y : SFits w32 y = search rules in
    after _ _ _ _ _ _ c.draw_around-x.ensures (after _ _ _ _ _ _ c.draw_around-y.ensures
    (ap₂ (λ (u v : ℤ). let vector : Vector = record { x = u; y = v } in (vector, c.draw_around-y.new.self.state)) (sym (to_z-of_z w32 x fits_x)) (sym (to_z-of_z w32 y fits_y))))
