-- What the rule means for any two passes.
use Rattle.std.proofs.Common.{ℕ, List}
use mathlib.Core.Logic.{dite}
use native.Mathlib.Decide.{ℕ_discrete}
use Rattle.device_lock.specs.Histories.{OneHistory, InOrder, AllGiven, OneNumber, OnePass}
use Rattle.device_lock.proofs.Sums.{prefix_either}
use Rattle.device_lock.proofs.Numbered.{are_given, one_number, no_other}

module _ {T I : Type 0} (caller : I → List ℕ) (stands : T → List I → Type 0) (at_rest : List I → Type 0) where
  pub begins : OneHistory caller stands at_rest
  begins s r j k v w at there = prefix_either v.seen w.seen r.history (r.past.begun j v at) (r.past.begun k w there)

  pub ordered : InOrder caller stands at_rest
  ordered s r j v at live = (r.numbers.kept j v at live).1

  pub given : AllGiven caller stands at_rest
  given s r j v at = are_given caller s.views r.history v.seen (r.past.begun j v at) r.numbers

  pub numbered : OneNumber caller stands at_rest
  numbered s r j k v w at there live on is = one_number caller s.views k j r.history w v there at on live is r.numbers

  pub only : OnePass caller stands at_rest
  only s r j k v w at there live on all = dite (ℕ_discrete j k) (λ e. e) (λ ne. absurd (no_other caller s.views k j r.history w v there at ne live all r.numbers))
