-- Where a number stands in a list.
use Rattle.std.proofs.Common.{◌≡◌, ◌⊎◌, ℕ, zero, suc, ◌+◌, ◌<◌, ◌≤◌, List, [], ◌∷◌, ◌++◌, length, Some, Contains, slice_get, refl, ap, ◌∙◌, inl, inr, arith, length-append}
use Rattle.std.proofs.lemmas.List.{get_or-append-add, get_or_append_left, get_or_past}
use Rattle.std.proofs.lemmas.List.Elements.{Contains-append_right}
use Rattle.std.proofs.lemmas.Option.{slice_get-get_or, slice_get_within, get_or_from_slice_get}
use Rattle.index_lists.specs.Lists.{StandOnce, list_at}

pub Contains-here : {X : Type 0} (x : X) (xs : List X) → Contains (x ∷ xs) x
Contains-here x xs = (0, omega arith, refl)

pub Contains-later : {X : Type 0} (y x : X) (xs : List X) → Contains xs x → Contains (y ∷ xs) x
Contains-later y x xs stands = Contains-append_right (y ∷ []) xs x stands

pub Contains-place : {X : Type 0} (xs : List X) (x : X) → Contains xs x → (k : ℕ) × (slice_get xs k ≡ Some x)
Contains-place xs x stands = (stands.0, slice_get-get_or xs stands.0 x stands.1 ∙ ap Some stands.2)

pub place-Contains : {X : Type 0} (xs : List X) (k : ℕ) (x : X) → slice_get xs k ≡ Some x → Contains xs x
place-Contains xs k x at = (k, slice_get_within xs k x at, get_or_from_slice_get xs k x x at)

-- what stands before it, and what after
pub Contains-split : {X : Type 0} (xs : List X) (x : X) → Contains xs x → (before : List X) × (after : List X) × (xs ≡ before ++ x ∷ after)
Contains-split {X} xs x stands = let at = Contains-place xs x stands in by_place xs at.0 at.1
  where
    by_place : (ys : List X) (k : ℕ) → slice_get ys k ≡ Some x → (before : List X) × (after : List X) × (ys ≡ before ++ x ∷ after)
    by_place [] k at = absurd (cc)
    by_place (y ∷ ys) zero at = ([], ys, let same : y ≡ x = cc in ap (λ z. z ∷ ys) same)
    by_place (y ∷ ys) (suc k) at = let later = by_place ys k at in (y ∷ later.0, later.1, ap (λ zs. y ∷ zs) later.2)

-- Each number stands once in the list.
abbrev pub IsOnceIn : List ℕ → Type 0
IsOnceIn xs = (i j n : ℕ) → slice_get xs i ≡ Some n → slice_get xs j ≡ Some n → i ≡ j

-- then no number stands in both parts
pub parts_apart : (xs ys : List ℕ) (n : ℕ) → IsOnceIn (xs ++ ys) → Contains xs n → Contains ys n → ⊥
parts_apart xs ys n once in_xs in_ys =
    let long : length (xs ++ ys) ≡ length xs + length ys = length-append xs ys in
    let left : slice_get (xs ++ ys) in_xs.0 ≡ Some n =
    slice_get-get_or (xs ++ ys) in_xs.0 n (omega (arith, in_xs.1)) ∙ ap Some (get_or_append_left xs ys n in_xs.0 in_xs.1 ∙ in_xs.2) in
    let right : slice_get (xs ++ ys) (length xs + in_ys.0) ≡ Some n =
    slice_get-get_or (xs ++ ys) (length xs + in_ys.0) n (omega (arith, in_ys.1)) ∙ ap Some (get_or-append-add xs ys in_ys.0 n ∙ in_ys.2) in
    let same : in_xs.0 ≡ length xs + in_ys.0 = once in_xs.0 (length xs + in_ys.0) n left right in
    omega (arith, in_xs.1)

module _ (lists : List (List ℕ)) (once : StandOnce lists) where
  pub one_list : (p q n : ℕ) → Contains (list_at lists p) n → Contains (list_at lists q) n → p ≡ q
  one_list p q n in_p in_q =
      let at_p = Contains-place (list_at lists p) n in_p in
      let at_q = Contains-place (list_at lists q) n in_q in
      (once p q at_p.0 at_q.0 n at_p.1 at_q.1).0

  pub once_in : (p : ℕ) → IsOnceIn (list_at lists p)
  once_in p i j n at_i at_j = (once p p i j n at_i at_j).1

-- a number in a list shows that there is this list
pub list_within : {X : Type 0} (lists : List (List X)) (i : ℕ) (x : X) → Contains (list_at lists i) x → i < length lists
list_within {X} lists i x stands = by_cases (cases_lt i (length lists))
  where
    cases_lt : (a b : ℕ) → (a < b) ⊎ (b ≤ a)
    cases_lt a b = grind arith

    by_cases : (i < length lists) ⊎ (length lists ≤ i) → i < length lists
    by_cases (inl within) = within
    by_cases (inr past) =
        let short : length (list_at lists i) ≡ 0 = ap length (get_or_past lists i [] past) in
        absurd (omega (arith, stands.1))
