use Rattle.std.proofs.Common.{get_or, sym, ap, ◌∙◌, arith}
use Rattle.inter_pred.specs.Parts.{near_in, part_at}
use Rattle.inter_pred.proofs.blocks.whole_start.Goals as goal

pub returns-in-Whole-clause-place : goal.returns-in-Whole-clause-place
unfolding part_at
returns-in-Whole-clause-place c xs place = ap (λ k. get_or xs k 0) (omega arith) ∙ sym (ap (λ p. part_at p (near_in xs c.args.stride place)) c.in-Whole.is)

pub returns-in-WholeRight-clause-place : goal.returns-in-WholeRight-clause-place
unfolding part_at
returns-in-WholeRight-clause-place c xs place = ap (λ k. get_or xs k 0) (omega arith) ∙ sym (ap (λ p. part_at p (near_in xs c.args.stride place)) c.in-WholeRight.is)

pub returns-in-WholeBelow-clause-place : goal.returns-in-WholeBelow-clause-place
unfolding part_at
returns-in-WholeBelow-clause-place c xs place = ap (λ k. get_or xs k 0) (omega arith) ∙ sym (ap (λ p. part_at p (near_in xs c.args.stride place)) c.in-WholeBelow.is)
