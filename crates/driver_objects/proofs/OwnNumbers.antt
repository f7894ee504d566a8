-- Kept objects by their numbers and holders.
use Rattle.std.proofs.Common.{◌≡◌, ℕ, ◌==◌, true, false, true≢false, Option, Some, None, sym, ap, ◌∙◌, arith}
use Rattle.std.specs.Option.{option_map_or}
use Rattle.std.proofs.lemmas.Bool.Decides.{nat_tests}
use Rattle.driver_objects.specs.Kinds.{has_number, has_own_holder, holder_of, number_of}
use Rattle.driver_objects.specs.declared.object.Object.{Object}

pub number_has : (number : ℕ) (object : Object) → number_of object.content ≡ Some number → has_number number object ≡ true
number_has number object is = ap (λ n. option_map_or (λ own. own == number) n false) is ∙ grind (arith, nat_tests)

pub has_it : (holder : ℕ) (object : Object) → holder_of object.content ≡ Some holder → has_own_holder holder object ≡ true
has_it holder object has = ap (λ h. option_map_or (λ own. own == holder) h false) has ∙ grind (arith, nat_tests)

pub it_has : (holder : ℕ) (object : Object) → has_own_holder holder object ≡ true → holder_of object.content ≡ Some holder
it_has holder object is = by_holder (holder_of object.content) is where
  by_holder : (h : Option ℕ) → option_map_or (λ own. own == holder) h false ≡ true → h ≡ Some holder
  by_holder None is = absurd (true≢false (sym is))
  by_holder (Some own) is = let same : own ≡ holder = grind (arith, nat_tests, is) in ap Some same

pub has_number_is : (number : ℕ) (object : Object) → has_number number object ≡ true → number_of object.content ≡ Some number
has_number_is number object has = by_own (number_of object.content) has where
  by_own : (own : Option ℕ) → option_map_or (λ n. n == number) own false ≡ true → own ≡ Some number
  by_own None has = absurd (true≢false (sym has))
  by_own (Some n) has = let same : n ≡ number = grind (arith, nat_tests, has) in ap Some same
