-- The numbers that the elements of a list have, each its own.
use Rattle.std.proofs.Common.{◌≡◌, inl, inr, ℕ, zero, suc, ◌+◌, ◌<◌, ◌≤◌, ◌||◌, true, false, true≢false, eqb, if◌then◌else◌, List, [], ◌∷◌, length, slice_get, Option, Some, None, refl, sym, ap, ◌∙◌, arith}
use Rattle.std.specs.List.{AllByRecursion, IsDistinct, cons_option, count_by, filter_map, list_any}
use Rattle.std.specs.Option.{is_some}
use Rattle.std.proofs.lemmas.Bool.Decides.{nat_tests}
use Rattle.std.proofs.lemmas.List.Sums.{sum_by-cons}
use Rattle.std.proofs.lemmas.Map.Steps.{le-length_from_below, length-le_from_distinct_below}
use Rattle.std.proofs.lemmas.Option.{none-some}
use Rattle.driver_objects.proofs.Cases.{true_or_false}
use Rattle.driver_objects.proofs.Lists.{element_is}

module _ {X : Type 0} (of : X → Option ℕ) where
  -- an element that has this number
  pub record HasOne (xs : List X) (number : ℕ) : Type 0 where
    pub index : ℕ
    pub one : X
    pub there : slice_get xs index ≡ Some one
    pub is : of one ≡ Some number

  one_more : (x : X) (xs : List X) (number : ℕ) → HasOne xs number → HasOne (x ∷ xs) number
  one_more x xs number h = record { index = suc h.index; one = h.one; there = h.there; is = h.is }

  pub number_from : (xs : List X) (number : ℕ) → list_any (eqb number) (filter_map of xs) ≡ true → HasOne xs number
  number_from [] number any = absurd (true≢false (sym any))
  number_from (x ∷ xs) number any = by_first (of x) refl (number_from xs number) any where
    by_first : (o : Option ℕ) → of x ≡ o → (list_any (eqb number) (filter_map of xs) ≡ true → HasOne xs number) → list_any (eqb number) (cons_option o (filter_map of xs)) ≡ true → HasOne (x ∷ xs) number
    by_first None e rest any = one_more x xs number (rest any)
    by_first (Some n) e rest any = elim (true_or_false (eqb number n)) [
      | inl same ↦ let is : n ≡ number = grind (arith, nat_tests, same) in record { index = 0; one = x; there = refl; is = e ∙ ap Some is }
      | inr apart ↦ one_more x xs number (rest (sym (ap (λ b. b || list_any (eqb number) (filter_map of xs)) apart) ∙ any))
    ]

  pub from_number : (xs : List X) (i : ℕ) (x : X) (number : ℕ) → slice_get xs i ≡ Some x → of x ≡ Some number → list_any (eqb number) (filter_map of xs) ≡ true
  from_number [] i x number at is = absurd (none-some x at)
  from_number (y ∷ xs) zero x number at is =
      let first : of y ≡ Some number = ap of (element_is y x at) ∙ is in
      let same : eqb number number ≡ true = grind (arith, nat_tests) in
      ap (λ o. list_any (eqb number) (cons_option o (filter_map of xs))) first ∙ ap (λ b. b || list_any (eqb number) (filter_map of xs)) same
  from_number (y ∷ xs) (suc i) x number at is = by_first (of y) (from_number xs i x number at is) where
    by_first : (o : Option ℕ) → list_any (eqb number) (filter_map of xs) ≡ true → list_any (eqb number) (cons_option o (filter_map of xs)) ≡ true
    by_first None any = any
    by_first (Some n) any = grind (arith, any)

  pub length_filtered : (xs : List X) → length (filter_map of xs) ≡ count_by (λ x. is_some (of x)) xs
  length_filtered [] = refl
  length_filtered (x ∷ xs) = by_first (of x) refl (length_filtered xs) where
    by_first : (o : Option ℕ) → of x ≡ o → length (filter_map of xs) ≡ count_by (λ x. is_some (of x)) xs → length (cons_option o (filter_map of xs)) ≡ count_by (λ x. is_some (of x)) (x ∷ xs)
    by_first None e rest =
        let counts : count_by (λ x. is_some (of x)) (x ∷ xs) ≡ 0 + count_by (λ x. is_some (of x)) xs = sum_by-cons (λ x. if is_some (of x) then 1 else 0) x xs ∙ ap (λ o. (if is_some o then 1 else 0) + count_by (λ x. is_some (of x)) xs) e in
        omega (arith, counts, rest)
    by_first (Some n) e rest =
        let counts : count_by (λ x. is_some (of x)) (x ∷ xs) ≡ 1 + count_by (λ x. is_some (of x)) xs = sum_by-cons (λ x. if is_some (of x) then 1 else 0) x xs ∙ ap (λ o. (if is_some o then 1 else 0) + count_by (λ x. is_some (of x)) xs) e in
        omega (arith, counts, rest)

  abbrev pub AreApart : List X → Type 0
  AreApart xs = (i j : ℕ) (a b : X) (number : ℕ) → slice_get xs i ≡ Some a → slice_get xs j ≡ Some b → of a ≡ Some number → of b ≡ Some number → i ≡ j

  all_other : (number : ℕ) (xs : List X) → ((i : ℕ) (x : X) → slice_get xs i ≡ Some x → of x ≡ Some number → ⊥) → AllByRecursion (λ n. eqb number n ≡ false) (filter_map of xs)
  all_other number [] none = tt
  all_other number (x ∷ xs) none = by_first (of x) refl (all_other number xs (λ i. none (suc i))) where
    by_first : (o : Option ℕ) → of x ≡ o → AllByRecursion (λ n. eqb number n ≡ false) (filter_map of xs) → AllByRecursion (λ n. eqb number n ≡ false) (cons_option o (filter_map of xs))
    by_first None e rest = rest
    by_first (Some n) e rest =
        let other : (number ≡ n) → ⊥ = λ same. none 0 x refl (e ∙ ap Some (sym same)) in
        (grind (arith, nat_tests, other), rest)

  pub distinct : (xs : List X) → AreApart xs → IsDistinct eqb (filter_map of xs)
  unfolding IsDistinct
  distinct [] apart = tt
  distinct (x ∷ xs) apart = by_first (of x) refl (distinct xs (λ i j a b n at bt ia ib. let same = apart (suc i) (suc j) a b n at bt ia ib in omega (arith, same))) where
    by_first : (o : Option ℕ) → of x ≡ o → IsDistinct eqb (filter_map of xs) → IsDistinct eqb (cons_option o (filter_map of xs))
    by_first None e rest = rest
    by_first (Some n) e rest = (all_other n xs (λ i y at is. let same = apart 0 (suc i) x y n refl at e is in omega (arith, same)), rest)

  module _ (xs : List X) (apart : AreApart xs) (bound : ℕ) (below : (i : ℕ) (x : X) (number : ℕ) → slice_get xs i ≡ Some x → of x ≡ Some number → number < bound) where
    pub count_le : length (filter_map of xs) ≤ bound
    count_le = length-le_from_distinct_below (filter_map of xs) bound (distinct xs apart) (λ q any. let h = number_from xs q any in below h.index h.one q h.there h.is)

    pub count_lt : (number : ℕ) → number < bound → ((i : ℕ) (x : X) → slice_get xs i ≡ Some x → of x ≡ Some number → ⊥) → length (filter_map of xs) < bound
    unfolding IsDistinct
    count_lt number within free =
        let more = length-le_from_distinct_below (number ∷ filter_map of xs) bound (all_other number xs free, distinct xs apart)
        (λ q any. elim (true_or_false (eqb q number)) [
          | inl same ↦ let is : q ≡ number = grind (arith, nat_tests, same) in omega (arith, is, within)
          | inr other ↦ let h = number_from xs q (sym (ap (λ b. b || list_any (eqb q) (filter_map of xs)) other) ∙ any) in below h.index h.one q h.there h.is
        ]) in
        omega (arith, more)

  pub count_ge : (xs : List X) (bound : ℕ) → ((number : ℕ) → number < bound → (i : ℕ) × (x : X) × (slice_get xs i ≡ Some x) × (of x ≡ Some number)) → bound ≤ length (filter_map of xs)
  count_ge xs bound all = le-length_from_below (filter_map of xs) bound (λ q within. let h = all q within in from_number xs h.0 h.1 q h.2 h.3)
