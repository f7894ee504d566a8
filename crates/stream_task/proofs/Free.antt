-- Where so few pictures wait, and one of them in a number's surface, there is a surface in which none waits and that is no number's.
use Rattle.std.proofs.Common.{◌≡◌, inl, inr, ℕ, zero, suc, ◌+◌, ◌<◌, ◌≤◌, ◌==◌, Bool, true, false, cond, not, ◌&&◌, ◌||◌, List, [], ◌∷◌, count_by, get_or, length, take, Option, None, refl, ap, sym, ◌∙◌, subst, arith, add-one}
use Rattle.std.specs.List.{list_any}
use Rattle.std.specs.Option.{is_some}
use Rattle.std.proofs.lemmas.Bool.{cases_Bool, eqb-true, false≢true}
use Rattle.std.proofs.lemmas.List.{take_all}
use Rattle.std.proofs.lemmas.List.Sums.{count_by-le-length, count_by_more_no, count_by_more_yes, sum_by-cons}

zero_is : (let n : ℕ = 0 in n ≡ 0)
zero_is = refl

-- how many of the numbers below this one pass the test
abbrev upto : (ℕ → Bool) → ℕ → ℕ
upto p zero = 0
upto p (suc n) = upto p n + cond (p n) 1 0

abbrev one_of : Bool → ℕ
one_of b = cond b 1 0

-- as many as in a list, by its places
places : {X : Type 0} (p : X → Bool) (xs : List X) (d : X) (n : ℕ) → n ≤ length xs → upto (λ k. p (get_or xs k d)) n ≡ count_by p (take n xs)
places p xs d zero le = refl
places p xs d (suc n) le =
    let here : n < length xs = omega (arith, le) in
    let before : upto (λ k. p (get_or xs k d)) n ≡ count_by p (take n xs) = places p xs d n (omega (arith, le)) in
    elim (cases_Bool (p (get_or xs n d))) [
      | inl t ↦ (λ i. before i + cond (t i) 1 0) ∙ (sym (count_by_more_yes p xs n d here t) ∙ ap (λ k. count_by p (take k xs)) (add-one n))
      | inr f ↦
          let more : count_by p (take (n + 1) xs) ≡ count_by p (take n xs) = count_by_more_no p xs n d here f in
          let same : count_by p (take (suc n) xs) ≡ count_by p (take (n + 1) xs) = sym (ap (λ k. count_by p (take k xs)) (add-one n)) in
          let none : one_of (p (get_or xs n d)) ≡ 0 = ap one_of f in
          omega (arith, before, more, same, none)
    ]

both_cover : (p q : ℕ → Bool) (n : ℕ) → ((k : ℕ) → k < n → 1 ≤ one_of (p k) + one_of (q k)) → n ≤ upto p n + upto q n
both_cover p q zero all = omega (arith)
both_cover p q (suc n) all =
    let before = both_cover p q n (λ k below. all k (omega (arith, below))) in
    let here = all n (omega (arith)) in
    omega (arith, before, here)

and_none : (a b : Bool) → b ≡ false → (let n : ℕ = one_of (a && b) in n ≡ 0)
and_none true b e = ap one_of e
and_none false b e = refl

and_most : (a b : Bool) → one_of (a && b) ≤ one_of a
and_most true true = omega (arith)
and_most true false = omega (arith)
and_most false b = omega (arith)

one_most : (a : Bool) → one_of a ≤ 1
one_most true = omega (arith)
one_most false = omega (arith)

-- ---- how many of the numbers are in a list

-- below the number it isn't met, and then once at most
not_met : (P : ℕ → Bool) (x n : ℕ) → n ≤ x → upto (λ k. P k && (x == k)) n ≡ 0
not_met P x zero le = zero_is
not_met P x (suc n) le =
    let before = not_met P x n (omega (arith, le)) in
    elim (cases_Bool (x == n)) [
      | inl t ↦ absurd (let e : x ≡ n = eqb-true x n t in omega (arith, e, le))
      | inr f ↦ let none = and_none (P n) (x == n) f in omega (arith, before, none)
    ]

met_once : (P : ℕ → Bool) (x n : ℕ) → upto (λ k. P k && (x == k)) n ≤ one_of (P x)
met_once P x zero = omega (arith)
met_once P x (suc n) = elim (cases_Bool (x == n)) [
  | inl t ↦
      let e : x ≡ n = eqb-true x n t in
      let none : upto (λ k. P k && (x == k)) n ≡ 0 = not_met P x n (omega (arith, e)) in
      let one : one_of (P n && (x == n)) ≤ one_of (P x) = subst (λ m. one_of (P m && (x == m)) ≤ one_of (P x)) e (and_most (P x) (x == x)) in
      omega (arith, none, one)
  | inr f ↦
      let before = met_once P x n in
      let none = and_none (P n) (x == n) f in
      omega (arith, before, none)
]

more_of : (p q r : ℕ → Bool) (n : ℕ) → ((k : ℕ) → one_of (r k) ≤ one_of (p k) + one_of (q k)) → upto r n ≤ upto p n + upto q n
more_of p q r zero each = omega (arith)
more_of p q r (suc n) each =
    let before = more_of p q r n each in
    let here = each n in
    omega (arith, before, here)

either : (a b c : Bool) → one_of (a && (b || c)) ≤ one_of (a && b) + one_of (a && c)
either true true c = omega (arith)
either true false c = omega (arith)
either false b c = omega (arith)

none_met : (P : ℕ → Bool) (n : ℕ) → upto (λ k. P k && list_any (λ x. x == k) []) n ≡ 0
none_met P zero = zero_is
none_met P (suc n) =
    let before = none_met P n in
    let none = and_none (P n) (list_any (λ x. x == n) []) refl in
    omega (arith, before, none)

members : (P : ℕ → Bool) (xs : List ℕ) (n : ℕ) → upto (λ k. P k && list_any (λ x. x == k) xs) n ≤ count_by P xs
members P [] n = let z = none_met P n in omega (arith, z)
members P (x ∷ xs) n =
    let later = members P xs n in
    let first = met_once P x n in
    let both = more_of (λ k. P k && (x == k)) (λ k. P k && list_any (λ y. y == k) xs) (λ k. P k && list_any (λ y. y == k) (x ∷ xs)) n (λ k. either (P k) (x == k) (list_any (λ y. y == k) xs)) in
    let c : count_by P (x ∷ xs) ≡ one_of (P x) + count_by P xs = sum_by-cons (λ y. cond (P y) 1 0) x xs in
    omega (arith, later, first, both, c)

-- one that doesn't pass leaves one fewer
one_fails : (P : ℕ → Bool) (xs : List ℕ) (i : ℕ) → i < length xs → P (get_or xs i 0) ≡ false → count_by P xs + 1 ≤ length xs
one_fails P [] i inside fails = absurd (omega (arith, inside))
one_fails P (x ∷ xs) zero inside fails =
    let c : count_by P (x ∷ xs) ≡ one_of (P x) + count_by P xs = sum_by-cons (λ y. cond (P y) 1 0) x xs in
    let z : one_of (P x) ≡ 0 = ap one_of fails in
    let most = count_by-le-length P xs in
    omega (arith, c, z, most)
one_fails P (x ∷ xs) (suc i) inside fails =
    let later = one_fails P xs i (omega (arith, inside)) fails in
    let c : count_by P (x ∷ xs) ≡ one_of (P x) + count_by P xs = sum_by-cons (λ y. cond (P y) 1 0) x xs in
    let most = one_most (P x) in
    omega (arith, later, c, most)

-- ---- the surfaces

module _ (numbers : List ℕ) (waits : List (Option ℕ)) (number : ℕ) where
  abbrev is_free : ℕ → Bool
  is_free k = not (is_some (get_or waits k None))

  covered : (k : ℕ) → (is_free k && not (list_any (λ x. x == k) numbers)) ≡ false → 1 ≤ one_of (is_some (get_or waits k None)) + one_of (is_free k && list_any (λ x. x == k) numbers)
  covered k taken = elim (cases_Bool (is_some (get_or waits k None))) [
    | inl t ↦ let one : one_of (is_some (get_or waits k None)) ≡ 1 = ap one_of t in omega (arith, one)
    | inr f ↦ elim (cases_Bool (list_any (λ x. x == k) numbers)) [
      | inl in' ↦ let one : one_of (is_free k && list_any (λ x. x == k) numbers) ≡ 1 = (λ i. one_of (not (f i) && in' i)) in omega (arith, one)
      | inr out ↦ absurd (let t : (is_free k && not (list_any (λ x. x == k) numbers)) ≡ true = (λ i. not (f i) && not (out i)) in false≢true (sym taken ∙ t))
    ]
  ]

  -- a free surface, or none, where so few wait
  pub none_taken : length waits ≡ 34 → length numbers ≡ 17 → number < 17 → count_by is_some waits ≤ 17
      → is_some (get_or waits (get_or numbers number 0) None) ≡ true
      → ((k : ℕ) → k < 34 → (is_free k && not (list_any (λ x. x == k) numbers)) ≡ false) → ⊥
  none_taken places_are numbers_are below few last all =
      let cover = both_cover (λ k. is_some (get_or waits k None)) (λ k. is_free k && list_any (λ x. x == k) numbers) 34 (λ k under. covered k (all k under)) in
      let some : upto (λ k. is_some (get_or waits k None)) 34 ≡ count_by is_some (take 34 waits) = places is_some waits None 34 (omega (arith, places_are)) in
      let whole : count_by is_some (take 34 waits) ≡ count_by is_some waits = ap (λ l. count_by is_some l) (take_all 34 waits (omega (arith, places_are))) in
      let in_numbers = members is_free numbers 34 in
      let fewer = one_fails is_free numbers number (omega (arith, numbers_are, below)) (ap not last) in
      omega (arith, cover, some, whole, in_numbers, fewer, few, numbers_are)
