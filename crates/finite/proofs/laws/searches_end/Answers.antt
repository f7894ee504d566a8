use Rattle.std.proofs.Common.{◌≡◌, ◌<◌, true}
use Rattle.finite.proofs.Equal.{equal_booleans}
use Rattle.finite.proofs.Lists.{lists_up_to}
use Rattle.finite.proofs.Numbers.{numbers_below}
use Rattle.finite.proofs.laws.searches_end.Goals as goal

pub returns : goal.returns
returns c = record {
  number = λ n test. (numbers_below n).find (λ x. test x ≡ true) (λ x h. equal_booleans (test x) true);
  list = λ n most test. (lists_up_to (λ x. x < n) (numbers_below n) most).find (λ xs. test xs ≡ true) (λ xs h. equal_booleans (test xs) true);
}
