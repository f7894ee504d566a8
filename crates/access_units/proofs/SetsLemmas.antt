-- A table that has the newest item of each number, where an item comes in place of the one of its number.
use Rattle.std.proofs.Common.{◌≡◌, ℕ, ◌≤◌, Bool, true, false, cond, List, [], ◌∷◌, ◌++◌, inl, inr, length, get_or, Option, None, Some, Result, Ok, Err, MatchOption, OnErr, refl, sym, ap, subst, ◌∙◌, eq-eqb}
use Rattle.std.proofs.Math.Dec.{eqb, ltb}
use Rattle.std.proofs.Math.ListN.{set}
use Rattle.std.specs.List.{find, position_or_len}
use Rattle.std.specs.Option.{option_map, option_or}
use Rattle.std.proofs.lemmas.Bool.{eqb-true}
use Rattle.std.proofs.lemmas.Bool.Decides.{eqb_tells}
use Rattle.std.proofs.lemmas.List.Folds.{find_at, find-append, find-set, find_past}
use Rattle.std.proofs.lemmas.List.Quantifiers.{position-Some}
use Rattle.std.proofs.lemmas.Option.{slice_get_past}
use borrow.Author.Tests.{ltb-false}

-- the item has this number
abbrev pub has : {X : Type 0} → (X → ℕ) → ℕ → X → Bool
has number id x = eqb (number x) id

-- the first place of an item that passes
abbrev pub first_place : {X : Type 0} → (X → Bool) → List X → Option ℕ
first_place p xs = cond (ltb (position_or_len p xs) (length xs)) (Some (position_or_len p xs)) None

place_is : (b : Bool) (place i : ℕ) → cond b (Some place) None ≡ Some i → i ≡ place
place_is true place i e = cc
place_is false place i e = absurd cc

no_place : (b : Bool) (place : ℕ) → cond b (Some place) None ≡ None → b ≡ false
no_place true place e = absurd cc
no_place false place e = refl

none_found : {X : Type 0} (p : X → Bool) (xs : List X) → first_place p xs ≡ None → find p xs ≡ None
none_found p xs none =
    let past : length xs ≤ position_or_len p xs = ltb-false _ _ (no_place _ _ none) in
    find_at p xs ∙ slice_get_past xs (position_or_len p xs) past

head_passes : {X : Type 0} (p : X → Bool) (x : X) (xs : List X) → p x ≡ true → find p (x ∷ xs) ≡ Some x
head_passes p x xs e = ap (λ (b : Bool). cond b (Some x) (find p xs)) e

head_fails : {X : Type 0} (p : X → Bool) (x : X) (xs : List X) → p x ≡ false → find p (x ∷ xs) ≡ find p xs
head_fails p x xs e = ap (λ (b : Bool). cond b (Some x) (find p xs)) e

or_none : {X : Type 0} (o : Option X) → option_or o None ≡ o
or_none None = refl
or_none (Some x) = refl

-- An item is written over the first one of its number.
pub put_over : {X : Type 0} (number : X → ℕ) (xs older : List X) (x : X) (place : ℕ) → first_place (has number (number x)) xs ≡ Some place
    → ((id : ℕ) → find (has number id) xs ≡ find (has number id) older)
    → (id : ℕ) → find (has number id) (set xs place x) ≡ find (has number id) (x ∷ older)
put_over {X} number xs older x place at same id =
    let there = position-Some (has number (number x)) xs place x at in
    let own : has number (number x) x ≡ true = eq-eqb (number x) (number x) refl in
    elim (eqb_tells (number x) id) [
      | inl e ↦
          let P : ℕ → Type 0 = λ i. find (has number i) (set xs place x) ≡ find (has number i) (x ∷ older) in
          subst P e.1 (find-set (has number (number x)) xs place x (place_is _ _ _ at) there.0 own ∙ sym (head_passes (has number (number x)) x older own))
      | inr e ↦
          let over : number (get_or xs place x) ≡ number x = eqb-true _ _ there.1 in
          find_past (has number id) xs place x x (ap (λ (n : ℕ). eqb n id) over ∙ e.0) e.0 ∙ same id ∙ sym (head_fails (has number id) x older e.0)
    ]

-- An item is put behind items of other numbers.
pub put_behind : {X : Type 0} (number : X → ℕ) (xs older : List X) (x : X) → first_place (has number (number x)) xs ≡ None
    → ((id : ℕ) → find (has number id) xs ≡ find (has number id) older)
    → (id : ℕ) → find (has number id) (xs ++ x ∷ []) ≡ find (has number id) (x ∷ older)
put_behind {X} number xs older x none same id =
    let own : has number (number x) x ≡ true = eq-eqb (number x) (number x) refl in
    elim (eqb_tells (number x) id) [
      | inl e ↦
          let p = has number (number x) in
          let P : ℕ → Type 0 = λ i. find (has number i) (xs ++ x ∷ []) ≡ find (has number i) (x ∷ older) in
          let here : find p (xs ++ x ∷ []) ≡ Some x = find-append p xs (x ∷ []) ∙ ap (λ (o : Option X). option_or o (find p (x ∷ []))) (none_found p xs none) ∙ head_passes p x [] own in
          subst P e.1 (here ∙ sym (head_passes p x older own))
      | inr e ↦
          let p = has number id in
          find-append p xs (x ∷ []) ∙ ap (λ (o : Option X). option_or (find p xs) o) (head_fails p x [] e.0) ∙ or_none (find p xs) ∙ same id ∙ sym (head_fails p x older e.0)
    ]

-- What a search finds in the table is what stands there.
pub found_is : {A B : Type 0} (v : A → B) (r : Option A) (o : Option B) → option_map v r ≡ o → MatchOption r (o ≡ None) (λ x. o ≡ Some (v x))
found_is v None o e = sym e
found_is v (Some x) o e = sym e

pub on_err : {T E : Type 0} (r : Result T E) (P : Type 0) → P → OnErr r P
on_err (Ok x) P p = tt
on_err (Err e) P p = p
