use Rattle.std.proofs.Common.{ap, arith, ℤ}
use Rattle.std.proofs.lemmas.Int.{ints}
use Rattle.cb_maker.proofs.Drawing.{after}
use Rattle.cb_maker.specs.Draws.{draw_around}
use Rattle.cb_maker.proofs.draws.Draws.draw_around.Goals as goal

pub returns : goal.returns
unfolding draw_around
returns c = after _ _ _ _ _ _ c.draw-number.ensures.drawn (ap (λ (z : ℤ). (z, c.draw-number.new.self.state)) (omega (arith, ints)))
