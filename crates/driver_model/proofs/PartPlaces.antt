-- The places of a list that a part takes, where they stand in the part, and the part of a list.
use Rattle.std.proofs.Common.{◌≡◌, inl, inr, ℕ, zero, suc, ◌+◌, ◌==◌, ◌<◌, ◌≤◌, Bool, true, false, if◌then◌else◌, List, [], ◌∷◌, ◌++◌, length, map, slice_get, refl, ap, sym, ◌∙◌, arith}
use Rattle.std.proofs.lemmas.Bool.{cases_eq, cases_order, eq-eqb, ne_eqb, or_from, or_parts}
use Rattle.std.proofs.lemmas.List.Sums.{sum_by-cons}
use Rattle.std.specs.List.{count_by, list_any}
use Rattle.std.specs.Option.{option_map}

-- the tests of the places behind the first
abbrev pub next : (ℕ → Bool) → ℕ → Bool
next own place = own (suc place)

-- how many places below this one are taken
unfoldable pub rank : (ℕ → Bool) → ℕ → ℕ
rank own zero = 0
rank own (suc place) = if own 0 then suc (rank (next own) place) else rank (next own) place

rank_below : (own : ℕ → Bool) (place : ℕ) → rank own place ≤ place
unfolding rank
rank_below own zero = omega arith
rank_below own (suc place) = by_first (own 0) (rank_below (next own) place) where
  by_first : (b : Bool) → rank (next own) place ≤ place → (if b then suc (rank (next own) place) else rank (next own) place) ≤ suc place
  by_first true less = omega (arith, less)
  by_first false less = omega (arith, less)

rank_less : (own : ℕ → Bool) (a b : ℕ) → own a ≡ true → a < b → rank own a < rank own b
unfolding rank
rank_less own zero zero is less = absurd (omega (arith, less))
rank_less own (suc a) zero is less = absurd (omega (arith, less))
rank_less own zero (suc b) is less =
    let first : (if own 0 then suc (rank (next own) b) else rank (next own) b) ≡ suc (rank (next own) b) = ap (λ t. if t then suc (rank (next own) b) else rank (next own) b) is in
    omega (arith, first)
rank_less own (suc a) (suc b) is less = by_first (own 0) (rank_less (next own) a b is (omega (arith, less))) where
  by_first : (t : Bool) → rank (next own) a < rank (next own) b
      → (if t then suc (rank (next own) a) else rank (next own) a) < (if t then suc (rank (next own) b) else rank (next own) b)
  by_first true rest = omega (arith, rest)
  by_first false rest = omega (arith, rest)

-- Which places are the device's own, and a bound above them.
pub record Cut : Type 0 where
  pub own : ℕ → Bool
  pub bound : ℕ
  pub below : (place : ℕ) → own place ≡ true → place < bound

-- where a place stands in the part; those that aren't its own stand behind all others
abbrev pub place_in : Cut → ℕ → ℕ
place_in c place = if c.own place then rank c.own place else c.bound + place

pub place_in-own : (c : Cut) (place : ℕ) → c.own place ≡ true → place_in c place ≡ rank c.own place
place_in-own c place is = ap (λ t. if t then rank c.own place else c.bound + place) is

pub same_tests : (a b c d : ℕ) → (a ≡ b → c ≡ d) → (c ≡ d → a ≡ b) → (a == b) ≡ (c == d)
same_tests a b c d there back = elim (cases_eq a b) [
  | inl e ↦ eq-eqb a b e ∙ sym (eq-eqb c d (there e))
  | inr apart ↦ ne_eqb a b apart ∙ sym (ne_eqb c d (λ e. apart (back e)))
]

-- no two places stand at one
place_in-back : (c : Cut) (a b : ℕ) → place_in c a ≡ place_in c b → a ≡ b
place_in-back c a b = by_values (c.own a) (c.own b) refl refl where
  by_values : (x y : Bool) → c.own a ≡ x → c.own b ≡ y → (if x then rank c.own a else c.bound + a) ≡ (if y then rank c.own b else c.bound + b) → a ≡ b
  by_values true true p q e = elim (cases_order a b) [
    | inl same ↦ same
    | inr (inl less) ↦ absurd (omega (arith, e, rank_less c.own a b p less))
    | inr (inr more) ↦ absurd (omega (arith, e, rank_less c.own b a q more))
  ]
  by_values true false p q e = absurd (omega (arith, e, rank_below c.own a, c.below a p))
  by_values false true p q e = absurd (omega (arith, e, rank_below c.own b, c.below b q))
  by_values false false p q e = omega (arith, e)

pub place_in-one : (c : Cut) (a b : ℕ) → (place_in c a == place_in c b) ≡ (a == b)
place_in-one c a b = same_tests (place_in c a) (place_in c b) a b (place_in-back c a b) (λ e. ap (place_in c) e)

abbrev one_if : Bool → ℕ
one_if b = if b then 1 else 0

-- ---- the part of a list

-- the same elements at the part's places
abbrev pub AreSame : {A : Type 0} → (ℕ → Bool) → List A → List A → Type 0
AreSame own [] [] = Unit {0}
AreSame own [] (y ∷ ys) = ⊥
AreSame own (x ∷ xs) [] = ⊥
AreSame own (x ∷ xs) (y ∷ ys) = (own 0 ≡ true → y ≡ x) × AreSame (next own) xs ys

module _ {A B : Type 0} (move : A → B) where
  -- what stands at the part's places, moved
  unfoldable pub kept : (ℕ → Bool) → List A → List B
  kept own [] = []
  kept own (x ∷ xs) = if own 0 then move x ∷ kept (next own) xs else kept (next own) xs

  pub get-kept : (own : ℕ → Bool) (xs : List A) (place : ℕ) → own place ≡ true → slice_get (kept own xs) (rank own place) ≡ option_map move (slice_get xs place)
  unfolding kept rank
  get-kept own [] place is = refl
  get-kept own (x ∷ xs) zero is = ap (λ t. slice_get (if t then move x ∷ kept (next own) xs else kept (next own) xs) 0) is
  get-kept own (x ∷ xs) (suc place) is = by_first (own 0) (get-kept (next own) xs place is) where
    by_first : (t : Bool) → slice_get (kept (next own) xs) (rank (next own) place) ≡ option_map move (slice_get xs place)
        → slice_get (if t then move x ∷ kept (next own) xs else kept (next own) xs) (if t then suc (rank (next own) place) else rank (next own) place) ≡ option_map move (slice_get xs place)
    by_first true rest = rest
    by_first false rest = rest

  pub length-kept : (own : ℕ → Bool) (xs : List A) → length (kept own xs) ≡ rank own (length xs)
  unfolding kept rank
  length-kept own [] = refl
  length-kept own (x ∷ xs) = by_first (own 0) (length-kept (next own) xs) where
    by_first : (t : Bool) → length (kept (next own) xs) ≡ rank (next own) (length xs)
        → length (if t then move x ∷ kept (next own) xs else kept (next own) xs) ≡ (if t then suc (rank (next own) (length xs)) else rank (next own) (length xs))
    by_first true rest = ap (λ n. suc n) rest
    by_first false rest = rest

  -- one more at the end
  pub kept-more : (own : ℕ → Bool) (xs : List A) (y : A) → own (length xs) ≡ true → kept own (xs ++ y ∷ []) ≡ kept own xs ++ move y ∷ []
  unfolding kept
  kept-more own [] y is = ap (λ t. if t then move y ∷ [] else []) is
  kept-more own (x ∷ xs) y is = by_first (own 0) (kept-more (next own) xs y is) where
    by_first : (t : Bool) → kept (next own) (xs ++ y ∷ []) ≡ kept (next own) xs ++ move y ∷ []
        → (if t then move x ∷ kept (next own) (xs ++ y ∷ []) else kept (next own) (xs ++ y ∷ [])) ≡ (if t then move x ∷ kept (next own) xs else kept (next own) xs) ++ move y ∷ []
    by_first true rest = ap (λ l. move x ∷ l) rest
    by_first false rest = rest

  pub kept-other : (own : ℕ → Bool) (xs : List A) (y : A) → own (length xs) ≡ false → kept own (xs ++ y ∷ []) ≡ kept own xs
  unfolding kept
  kept-other own [] y is = ap (λ t. if t then move y ∷ [] else []) is
  kept-other own (x ∷ xs) y is = by_first (own 0) (kept-other (next own) xs y is) where
    by_first : (t : Bool) → kept (next own) (xs ++ y ∷ []) ≡ kept (next own) xs
        → (if t then move x ∷ kept (next own) (xs ++ y ∷ []) else kept (next own) (xs ++ y ∷ [])) ≡ (if t then move x ∷ kept (next own) xs else kept (next own) xs)
    by_first true rest = ap (λ l. move x ∷ l) rest
    by_first false rest = rest

  -- a change of each element
  pub kept-map : (f : A → A) (g : B → B) → ((x : A) → move (f x) ≡ g (move x)) → (own : ℕ → Bool) (xs : List A) → kept own (map f xs) ≡ map g (kept own xs)
  unfolding kept
  kept-map f g moves own [] = refl
  kept-map f g moves own (x ∷ xs) = by_first (own 0) (kept-map f g moves (next own) xs) where
    by_first : (t : Bool) → kept (next own) (map f xs) ≡ map g (kept (next own) xs)
        → (if t then move (f x) ∷ kept (next own) (map f xs) else kept (next own) (map f xs)) ≡ map g (if t then move x ∷ kept (next own) xs else kept (next own) xs)
    by_first true rest = λ i. moves x i ∷ rest i
    by_first false rest = rest

  -- what no element of the whole is, none of the part is
  pub none-kept : (p : A → Bool) (q : B → Bool) → ((x : A) → q (move x) ≡ p x) → (own : ℕ → Bool) (xs : List A) → list_any p xs ≡ false → list_any q (kept own xs) ≡ false
  unfolding kept
  none-kept p q same own [] none = refl
  none-kept p q same own (x ∷ xs) none = by_first (own 0) (none-kept p q same (next own) xs (or_parts (p x) (list_any p xs) none).1) where
    by_first : (t : Bool) → list_any q (kept (next own) xs) ≡ false → list_any q (if t then move x ∷ kept (next own) xs else kept (next own) xs) ≡ false
    by_first true rest = or_from (q (move x)) (list_any q (kept (next own) xs)) (same x ∙ (or_parts (p x) (list_any p xs) none).0) rest
    by_first false rest = rest

  -- and there are not more of them
  pub count-kept : (p : A → Bool) (q : B → Bool) → ((x : A) → q (move x) ≡ p x) → (own : ℕ → Bool) (xs : List A) → count_by q (kept own xs) ≤ count_by p xs
  unfolding kept
  count-kept p q same own [] = omega arith
  count-kept p q same own (x ∷ xs) = by_first (own 0) (count-kept p q same (next own) xs) where
    one : count_by p (x ∷ xs) ≡ one_if (p x) + count_by p xs
    one = sum_by-cons (λ y. one_if (p y)) x xs

    by_first : (t : Bool) → count_by q (kept (next own) xs) ≤ count_by p xs → count_by q (if t then move x ∷ kept (next own) xs else kept (next own) xs) ≤ count_by p (x ∷ xs)
    by_first true rest =
        let two : count_by q (move x ∷ kept (next own) xs) ≡ one_if (q (move x)) + count_by q (kept (next own) xs) = sum_by-cons (λ y. one_if (q y)) (move x) (kept (next own) xs) in
        let as_many : one_if (q (move x)) ≡ one_if (p x) = ap one_if (same x) in
        omega (arith, one, two, as_many, rest)
    by_first false rest = omega (arith, one, rest)

  -- two lists that are the same at the part's places have one part
  pub kept-same : (own : ℕ → Bool) (xs ys : List A) → AreSame own xs ys → kept own ys ≡ kept own xs
  unfolding kept
  kept-same own [] [] same = refl
  kept-same own [] (y ∷ ys) same = absurd same
  kept-same own (x ∷ xs) [] same = absurd same
  kept-same own (x ∷ xs) (y ∷ ys) same = by_first (own 0) refl (kept-same (next own) xs ys same.1) where
    by_first : (t : Bool) → own 0 ≡ t → kept (next own) ys ≡ kept (next own) xs
        → (if t then move y ∷ kept (next own) ys else kept (next own) ys) ≡ (if t then move x ∷ kept (next own) xs else kept (next own) xs)
    by_first true is rest = λ i. move (same.0 is i) ∷ rest i
    by_first false is rest = rest
