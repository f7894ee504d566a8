-- A text up to a place, what is pushed next, and what that settles.
use Rattle.std.proofs.Common.{◌≡◌, ℕ, ◌+◌, ◌-◌, ◌<◌, List, [], ◌∷◌, ◌++◌, length, get_or, take, drop, sym, ◌∙◌, ap, subst, Option, Some, Result, Ok, Err}
use Rattle.std.specs.Prelude.{IfOk}
use Rattle.std.proofs.lemmas.List.{take_more, take-append-drop, length-drop}
use Rattle.std.proofs.Math.Seq.{take-add, take-length}
use Rattle.nal_units.specs.Units.{Units}
use Rattle.nal_units.specs.Settled.{Settles, unit_in, broken_in}
use Rattle.nal_units.specs.Finder.{StandsFor}
use Rattle.nal_units.specs.declared.finder.Finder.{Finder}
use Rattle.nal_units.specs.declared.finder.Found.{Found}

rest_is : (text : List ℕ) (i : ℕ) → take (length text - i) (drop i text) ≡ drop i text
rest_is text i = ap (λ n. take n (drop i text)) (sym (length-drop i text)) ∙ take-length (drop i text)

pub rest_len : (text : List ℕ) (i : ℕ) → length (take (length text - i) (drop i text)) ≡ length text - i
rest_len text i = ap length (rest_is text i) ∙ length-drop i text

-- the text up to the next place
pub byte_on : (text : List ℕ) (i : ℕ) → i < length text → take i text ++ get_or text i 0 ∷ [] ≡ take (i + 1) text
byte_on text i inside = sym (take_more text i 0 inside)

pub piece_on : (text : List ℕ) (i n : ℕ) → take i text ++ take n (take (length text - i) (drop i text)) ≡ take (i + n) text
piece_on text i n = ap (λ s. take i text ++ take n s) (rest_is text i) ∙ sym (take-add i n text)

pub stands_on : (f : Finder) (t next : List ℕ) → t ≡ next → StandsFor f t → StandsFor f next
stands_on f t next same stands = let P : List ℕ → Type 0 = λ x. StandsFor f x in subst P same stands

-- by what was found

pub settles_on : (t next : List ℕ) (u v : List (ℕ × ℕ)) (f g : Found) → t ≡ next → f ≡ g → u ++ unit_in g ≡ v → Settles t (u ++ unit_in f) (broken_in f) → Settles next v (broken_in g)
settles_on t next u v f g text same units settles =
    let P : Found → Type 0 = λ x. Settles t (u ++ unit_in x) (broken_in x) in
    let Q : List (ℕ × ℕ) → Type 0 = λ x. Settles t x (broken_in g) in
    let R : List ℕ → Type 0 = λ x. Settles x v (broken_in g) in
    subst R text (subst Q units (subst P same settles))

-- a broken front breaks the text
pub broken_text : (text : List ℕ) (i : ℕ) (u : List (ℕ × ℕ)) (at : ℕ) → Settles (take i text) u (Some at) → Units text u (Some at)
broken_text text i u at settles = let P : List ℕ → Type 0 = λ x. Units x u (Some at) in subst P (take-append-drop i text) (settles (drop i text))

-- the end of the text
pub whole_text : {A E : Type 0} (r : Result A E) (units : A → List (ℕ × ℕ)) (broken : A → Option ℕ) (text : List ℕ) (n : ℕ) (u : List (ℕ × ℕ)) (b : Option ℕ)
    → n ≡ length text → Units (take n text) u b → IfOk r (λ x. units x ≡ u) → IfOk r (λ x. broken x ≡ b) → IfOk r (λ x. Units text (units x) (broken x))
whole_text (Ok x) units broken text n u b all reading first second =
    let P : List ℕ → Type 0 = λ t. Units t u b in
    let Q : List (ℕ × ℕ) → Type 0 = λ v. Units text v b in
    let R : Option ℕ → Type 0 = λ c. Units text (units x) c in
    subst R (sym second) (subst Q (sym first) (subst P (ap (λ k. take k text) all ∙ take-length text) reading))
whole_text (Err e) units broken text n u b all reading first second = tt
