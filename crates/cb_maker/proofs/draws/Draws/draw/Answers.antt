use Rattle.std.proofs.Common.{sym, ap, ◌%◌, ◌/◌, ℕ}
use Rattle.cb_maker.specs.Draws.{draw}
use Rattle.cb_maker.proofs.draws.Draws.draw.Goals as goal

pub returns-clause-drawn : goal.returns-clause-drawn
unfolding draw
returns-clause-drawn c = ap (λ (s : ℕ). (s / 8589934592 % c.args.n, s)) (sym c.step.ensures)
