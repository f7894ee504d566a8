use Rattle.std.proofs.Common.{◌≡◌, ℕ, ◌<◌, ◌≤◌, get_or}
use Rattle.inter_pred.specs.Weights.{weighted}
use Rattle.inter_pred.proofs.weigh.Given as goal

abbrev pub invariant-loop-sample : goal.invariant-loop-sample
invariant-loop-sample l = ((j : ℕ) → j < l.sample-index → get_or l.samples j 0 ≡ weighted l.denom l.weight l.offset (get_or l.initial.samples j 0)) × ((j : ℕ) → l.sample-index ≤ j → get_or l.samples j 0 ≡ get_or l.initial.samples j 0)
