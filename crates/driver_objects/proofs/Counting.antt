-- Two lists that have the same elements, one of them with gaps, have as many of a kind.
use Rattle.std.proofs.Common.{◌≡◌, ◌⊎◌, inl, inr, ℕ, zero, suc, ◌+◌, ◌<◌, ◌≤◌, Bool, true, false, if◌then◌else◌, List, [], ◌∷◌, slice_get, Some, refl, sym, ap, ◌∙◌, subst, arith}
use Rattle.std.specs.List.{count_by}
use Rattle.std.proofs.lemmas.List.Sums.{sum_by-cons}
use Rattle.std.proofs.lemmas.Option.{none-some}
use Rattle.driver_objects.proofs.Cases.{same_bool, true_or_false}
use Rattle.driver_objects.proofs.Lists.{element_is}

module _ {X Y : Type 0} (P : X → Bool) (Q : Y → Bool) (place : X → ℕ) where
  -- The elements of one list stand by rising places, from this one on; each that passes says where one stands in the other list that
  -- passes, and each of those is said so.
  pub record Agree (from : ℕ) (xs : List X) (ys : List Y) : Type 0 where
    pub rising : (i j : ℕ) (a b : X) → i < j → slice_get xs i ≡ Some a → slice_get xs j ≡ Some b → place a < place b
    pub least : (i : ℕ) (a : X) → slice_get xs i ≡ Some a → from ≤ place a
    pub there : (i : ℕ) (a : X) → slice_get xs i ≡ Some a → P a ≡ true → (p : ℕ) × (o : Y) × (place a ≡ from + p) × (slice_get ys p ≡ Some o) × (Q o ≡ true)
    pub back : (p : ℕ) (o : Y) → slice_get ys p ≡ Some o → Q o ≡ true → (i : ℕ) × (a : X) × (slice_get xs i ≡ Some a) × (place a ≡ from + p) × (P a ≡ true)

  count_cons : {Z : Type 0} (test : Z → Bool) (z : Z) (zs : List Z) → count_by test (z ∷ zs) ≡ (if test z then 1 else 0) + count_by test zs
  count_cons test z zs = sum_by-cons (λ x. if test x then 1 else 0) z zs

  count_none : {Z : Type 0} (test : Z → Bool) (zs : List Z) → ((i : ℕ) (z : Z) → slice_get zs i ≡ Some z → test z ≡ true → ⊥) → count_by test zs ≡ 0
  count_none test [] none = refl
  count_none test (z ∷ zs) none =
      let fails : test z ≡ false = elim (true_or_false (test z)) [ inl passes ↦ absurd (none 0 z refl passes) | inr fails ↦ fails ] in
      let rest : count_by test zs ≡ 0 = count_none test zs (λ i. none (suc i)) in
      let first : count_by test (z ∷ zs) ≡ 0 + count_by test zs = count_cons test z zs ∙ ap (λ b. (if b then 1 else 0) + count_by test zs) fails in
      omega (arith, first, rest)

  -- the first of the one stands where the first of the other does
  module _ (from : ℕ) (x : X) (xs : List X) (y : Y) (ys : List Y) (agree : Agree from (x ∷ xs) (y ∷ ys)) where
    behind : (i : ℕ) (a : X) → slice_get xs i ≡ Some a → place x < place a
    behind i a at = agree.rising 0 (suc i) x a (omega arith) refl at

    first_of : (i : ℕ) (a : X) → slice_get (x ∷ xs) i ≡ Some a → place x ≤ place a
    first_of zero a at = subst (λ b. place x ≤ place b) (element_is x a at) (omega arith)
    first_of (suc i) a at = let lt = behind i a at in omega (arith, lt)

    same_first : place x ≡ from → P x ≡ Q y
    same_first here = same_bool (P x) (Q y)
        (λ passes. let t = agree.there 0 x refl passes in
        let zeroth : t.0 ≡ 0 = omega (arith, here, t.2) in
        subst (λ o. Q o ≡ true) (sym (element_is y t.1 (subst (λ p. slice_get (y ∷ ys) p ≡ Some t.1) zeroth t.3))) t.4)
        (λ passes. let b = agree.back 0 y refl passes in is_first b.0 b.1 b.2 b.3 b.4)
      where
        is_first : (i : ℕ) (a : X) → slice_get (x ∷ xs) i ≡ Some a → place a ≡ from + 0 → P a ≡ true → P x ≡ true
        is_first zero a at same passes = subst (λ b. P b ≡ true) (sym (element_is x a at)) passes
        is_first (suc i) a at same passes = let lt = behind i a at in absurd (omega (arith, lt, same, here))

    later : (q : ℕ) (o : Y) (p : ℕ) → from < q → q ≡ from + p → slice_get (y ∷ ys) p ≡ Some o → (r : ℕ) × (q ≡ suc from + r) × (slice_get ys r ≡ Some o)
    later q o zero above same at = absurd (omega (arith, above, same))
    later q o (suc r) above same at = (r, omega (arith, same), at)

    without_both : place x ≡ from → Agree (suc from) xs ys
    without_both here = record {
      rising = λ i j a b lt at bt. agree.rising (suc i) (suc j) a b (omega (arith, lt)) at bt;
      least = λ i a at. let lt = behind i a at in omega (arith, lt, here);
      there = λ i a at passes.
          let t = agree.there (suc i) a at passes in
          let lt = behind i a at in
          let r = later (place a) t.1 t.0 (omega (arith, lt, here)) t.2 t.3 in
          (r.0, t.1, r.1, r.2, t.4);
      back = λ p o at passes. let b = agree.back (suc p) o at passes in behind_first b.0 b.1 p b.2 b.3 b.4;
    }
      where
        behind_first : (i : ℕ) (a : X) (p : ℕ) → slice_get (x ∷ xs) i ≡ Some a → place a ≡ from + suc p → P a ≡ true → (j : ℕ) × (b : X) × (slice_get xs j ≡ Some b) × (place b ≡ suc from + p) × (P b ≡ true)
        behind_first zero a p at same passes = let e : place x ≡ place a = ap place (element_is x a at) in absurd (omega (arith, e, same, here))
        behind_first (suc j) a p at same passes = (j, a, at, omega (arith, same), passes)

    missing : from < place x → Q y ≡ false
    missing above = elim (true_or_false (Q y)) [
      | inl passes ↦ let b = agree.back 0 y refl passes in let le = first_of b.0 b.1 b.2 in absurd (omega (arith, above, le, b.3))
      | inr fails ↦ fails
    ]

    without_one : from < place x → Agree (suc from) (x ∷ xs) ys
    without_one above = record {
      rising = agree.rising;
      least = λ i a at. let le = first_of i a at in omega (arith, above, le);
      there = λ i a at passes.
          let t = agree.there i a at passes in
          let le = first_of i a at in
          let r = later (place a) t.1 t.0 (omega (arith, le, above)) t.2 t.3 in
          (r.0, t.1, r.1, r.2, t.4);
      back = λ p o at passes. let b = agree.back (suc p) o at passes in (b.0, b.1, b.2, omega (arith, b.3), b.4);
    }

  here_or_above : (m n : ℕ) → m ≤ n → (n ≡ m) ⊎ (m < n)
  here_or_above m n le = grind (arith, le)

  pub same_count : (from : ℕ) (xs : List X) (ys : List Y) → Agree from xs ys → count_by P xs ≡ count_by Q ys
  same_count from xs [] agree = count_none P xs (λ i a at passes. let t = agree.there i a at passes in none-some t.1 t.3)
  same_count from [] (y ∷ ys) agree = sym (count_none Q (y ∷ ys) (λ p o at passes. let b = agree.back p o at passes in none-some b.1 b.2))
  same_count from (x ∷ xs) (y ∷ ys) agree = elim (here_or_above from (place x) (agree.least 0 x refl)) [
    | inl here ↦
        count_cons P x xs ∙ (ap (λ b. (if b then 1 else 0) + count_by P xs) (same_first from x xs y ys agree here)
        ∙ (ap (λ n. (if Q y then 1 else 0) + n) (same_count (suc from) xs ys (without_both from x xs y ys agree here)) ∙ sym (count_cons Q y ys)))
    | inr above ↦
        let none : count_by Q (y ∷ ys) ≡ 0 + count_by Q ys = count_cons Q y ys ∙ ap (λ b. (if b then 1 else 0) + count_by Q ys) (missing from x xs y ys agree above) in
        same_count (suc from) (x ∷ xs) ys (without_one from x xs y ys agree above) ∙ omega (arith, none)
  ]
