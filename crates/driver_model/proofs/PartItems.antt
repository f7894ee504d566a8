-- The places of a part's items in the whole history, and where an item stands in the part.
use Rattle.std.proofs.Common.{◌≡◌, inl, inr, ℕ, suc, ◌+◌, ◌<◌, ◌==◌, nat_lt, Bool, true, false, not, cond, if◌then◌else◌, List, [], ◌∷◌, ◌++◌, length, slice_get, Option, Some, None, refl, ap, sym, ◌∙◌, subst, arith}
use Rattle.std.proofs.lemmas.Bool.{cases_lt, eq-eqb, eqb-true, le-ltb, lt-ltb, ne_eqb}
use Rattle.std.specs.List.{AllByRecursion, position, position_or_len}
use Rattle.std.specs.Option.{option_map}

-- where the item of this place stands in the part whose items have these places
abbrev pub item_in : List ℕ → ℕ → Option ℕ
item_in places item = position (λ place. place == item) places

abbrev suc_of : ℕ → ℕ
suc_of n = suc n

unfoldable place_of : List ℕ → ℕ → Option ℕ
place_of [] item = None
place_of (place ∷ places) item = if place == item then Some 0 else option_map suc_of (place_of places item)

position-first : (test : ℕ → Bool) (x : ℕ) (xs : List ℕ) → test x ≡ true → position test (x ∷ xs) ≡ Some 0
position-first test x xs is =
    let none : position_or_len test (x ∷ xs) ≡ 0 = ap (λ b. cond (not b) (1 + position_or_len test xs) 0) is in
    ap (λ k. cond (nat_lt k (length (x ∷ xs))) (Some k) None) none ∙ ap (λ b. cond b (Some 0) None) (lt-ltb 0 (length (x ∷ xs)) (omega arith))

position-later : (test : ℕ → Bool) (x : ℕ) (xs : List ℕ) → test x ≡ false → position test (x ∷ xs) ≡ option_map suc_of (position test xs)
position-later test x xs fails =
    let more : position_or_len test (x ∷ xs) ≡ 1 + position_or_len test xs = ap (λ b. cond (not b) (1 + position_or_len test xs) 0) fails in
    ap (λ k. cond (nat_lt k (length (x ∷ xs))) (Some k) None) more
    ∙ elim (cases_lt (position_or_len test xs) (length xs)) [
      | inl less ↦
          ap (λ b. cond b (Some (1 + position_or_len test xs)) None) (lt-ltb (1 + position_or_len test xs) (length (x ∷ xs)) (omega (arith, less)))
          ∙ (ap (λ k. Some k) (let one : 1 + position_or_len test xs ≡ suc (position_or_len test xs) = omega arith in one)
          ∙ sym (ap (λ b. option_map suc_of (cond b (Some (position_or_len test xs)) None)) (lt-ltb (position_or_len test xs) (length xs) less)))
      | inr most ↦
          ap (λ b. cond b (Some (1 + position_or_len test xs)) None) (le-ltb (1 + position_or_len test xs) (length (x ∷ xs)) (omega (arith, most)))
          ∙ sym (ap (λ b. option_map suc_of (cond b (Some (position_or_len test xs)) None)) (le-ltb (position_or_len test xs) (length xs) most))
    ]

position-none : (test : ℕ → Bool) → position test [] ≡ None
position-none test = refl

item_in-is : (places : List ℕ) (item : ℕ) → item_in places item ≡ place_of places item
unfolding place_of
item_in-is [] item = position-none (λ place. place == item)
item_in-is (place ∷ places) item = by_first (place == item) refl (item_in-is places item) where
  by_first : (b : Bool) → (place == item) ≡ b → item_in places item ≡ place_of places item → item_in (place ∷ places) item ≡ (if b then Some 0 else option_map suc_of (place_of places item))
  by_first true e rest = position-first (λ p. p == item) place places e
  by_first false e rest = position-later (λ p. p == item) place places e ∙ ap (option_map suc_of) rest

suc_none : (o : Option ℕ) (k : ℕ) → option_map suc_of o ≡ Some k → (j : ℕ) × (o ≡ Some j) × (k ≡ suc j)
suc_none None k e = absurd (let z : (let o : Option ℕ = None in o ≡ Some k) = e in cc)
suc_none (Some j) k e = let same : suc j ≡ k = (let z : (let o : Option ℕ = Some (suc j) in o ≡ Some k) = e in cc) in (j, refl, sym same)

-- what stands there
place_of-get : (places : List ℕ) (item k : ℕ) → place_of places item ≡ Some k → slice_get places k ≡ Some item
unfolding place_of
place_of-get [] item k e = absurd (let z : (let o : Option ℕ = None in o ≡ Some k) = e in cc)
place_of-get (place ∷ places) item k e = by_first (place == item) refl e (place_of-get places item) where
  by_first : (b : Bool) → (place == item) ≡ b → (if b then Some 0 else option_map suc_of (place_of places item)) ≡ Some k → ((j : ℕ) → place_of places item ≡ Some j → slice_get places j ≡ Some item) → slice_get (place ∷ places) k ≡ Some item
  by_first true is z rest =
      let first : 0 ≡ k = (let y : (let o : Option ℕ = Some 0 in o ≡ Some k) = z in cc) in
      subst (λ n. slice_get (place ∷ places) n ≡ Some item) first (ap (λ p. Some p) (eqb-true place item is))
  by_first false is z rest =
      let s = suc_none (place_of places item) k z in
      subst (λ n. slice_get (place ∷ places) n ≡ Some item) (sym s.2) (rest s.0 s.1)

-- no two items stand at one place
pub item_in-one : (places : List ℕ) (a b k : ℕ) → item_in places a ≡ Some k → item_in places b ≡ Some k → a ≡ b
item_in-one places a b k p q =
    let here : Some a ≡ slice_get places k = sym (place_of-get places a k (sym (item_in-is places a) ∙ p)) in
    let there : slice_get places k ≡ Some b = place_of-get places b k (sym (item_in-is places b) ∙ q) in
    let both : Some a ≡ Some b = here ∙ there in
    cc

-- ---- one item more

place_of-other : (places : List ℕ) (here item : ℕ) → (item ≡ here → ⊥) → place_of (places ++ here ∷ []) item ≡ place_of places item
unfolding place_of
place_of-other [] here item other = ap (λ b. if b then Some 0 else None) (ne_eqb here item (λ e. other (sym e)))
place_of-other (place ∷ places) here item other = ap (λ o. if place == item then Some 0 else option_map suc_of o) (place_of-other places here item other)

place_of-last : (places : List ℕ) (here : ℕ) → AllByRecursion (λ place. place < here) places → place_of (places ++ here ∷ []) here ≡ Some (length places)
unfolding place_of
place_of-last [] here below = ap (λ b. if b then Some 0 else None) (eq-eqb here here refl)
place_of-last (place ∷ places) here below =
    let less = below.0 in
    ap (λ b. if b then Some 0 else option_map suc_of (place_of (places ++ here ∷ []) here)) (ne_eqb place here (λ e. omega (arith, e, less))) ∙ ap (option_map suc_of) (place_of-last places here below.1)

place_of-none : (places : List ℕ) (here : ℕ) → AllByRecursion (λ place. place < here) places → place_of places here ≡ None
unfolding place_of
place_of-none [] here below = refl
place_of-none (place ∷ places) here below =
    let less = below.0 in
    ap (λ b. if b then Some 0 else option_map suc_of (place_of places here)) (ne_eqb place here (λ e. omega (arith, e, less))) ∙ ap (option_map suc_of) (place_of-none places here below.1)

pub item_in-other : (places : List ℕ) (here item : ℕ) → item < here → item_in (places ++ here ∷ []) item ≡ item_in places item
item_in-other places here item less =
    item_in-is (places ++ here ∷ []) item ∙ (place_of-other places here item (λ e. omega (arith, e, less)) ∙ sym (item_in-is places item))

pub item_in-last : (places : List ℕ) (here : ℕ) → AllByRecursion (λ place. place < here) places → item_in (places ++ here ∷ []) here ≡ Some (length places)
item_in-last places here below = item_in-is (places ++ here ∷ []) here ∙ place_of-last places here below

pub item_in-none : (places : List ℕ) (here : ℕ) → AllByRecursion (λ place. place < here) places → item_in places here ≡ None
item_in-none places here below = item_in-is places here ∙ place_of-none places here below

pub all_below : (places : List ℕ) (here : ℕ) → AllByRecursion (λ place. place < here) places → AllByRecursion (λ place. place < here + 1) places
all_below [] here below = tt
all_below (place ∷ places) here below = let less = below.0 in (omega (arith, less), all_below places here below.1)

pub all_below-more : (places : List ℕ) (here : ℕ) → AllByRecursion (λ place. place < here) places → AllByRecursion (λ place. place < here + 1) (places ++ here ∷ [])
all_below-more [] here below = (omega arith, tt)
all_below-more (place ∷ places) here below = let less = below.0 in (omega (arith, less), all_below-more places here below.1)
