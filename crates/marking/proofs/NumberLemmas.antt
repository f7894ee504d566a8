-- So many frames have no more numbers of their own.
use Rattle.std.proofs.Common.{◌≡◌, ◌≢◌, ℕ, zero, suc, ◌+◌, ◌<◌, ◌≤◌, Bool, true, false, not, ◌||◌, cond, if◌then◌else◌, List, [], ◌∷◌, length, filter, refl, sym, ap, ◌∙◌, subst, arith, inl, inr}
use Rattle.std.specs.List.{list_any}
use Rattle.std.proofs.lemmas.Bool.{cases_eq}
use Rattle.std.proofs.lemmas.Bool.Decides.{nat_tests}
use Rattle.cb_types.specs.declared.picture_info.Reference.{Reference}
use Rattle.marking.specs.Frames.{FreeNumberIsLeast, IsLeastFree, free_number, free_number_from, has_number}

-- the frames without those of a number
abbrev without : ℕ → List Reference → List Reference
without n frames = filter (λ frame. not (has_number n frame)) frames

shorter_or_same : (n : ℕ) (frames : List Reference) → length (without n frames) ≤ length frames
shorter_or_same n [] = omega arith
shorter_or_same n (x ∷ xs) =
    let more = shorter_or_same n xs in
    elim (has_number n x) as (λ b. length (cond (not b) (x ∷ without n xs) (without n xs)) ≤ length (x ∷ xs)) [ true ↦ omega (arith, more) | false ↦ omega (arith, more) ]

shorter : (n : ℕ) (frames : List Reference) → list_any (has_number n) frames ≡ true → length (without n frames) + 1 ≤ length frames
shorter n [] some = absurd cc
shorter n (x ∷ xs) some =
    elim (has_number n x) as (λ b. (b || list_any (has_number n) xs) ≡ true → length (cond (not b) (x ∷ without n xs) (without n xs)) + 1 ≤ length (x ∷ xs)) [
      | true ↦ λ e. (let more = shorter_or_same n xs in omega (arith, more))
      | false ↦ λ e. (let more = shorter n xs e in omega (arith, more))
    ] some

-- another number is still there
apart : (n m : ℕ) (x : Reference) → n ≢ m → has_number n x ≡ true → has_number m x ≡ false
apart n m x ne e = grind (arith, nat_tests)

other_stays : (n m : ℕ) (frames : List Reference) → n ≢ m → list_any (has_number m) (without n frames) ≡ list_any (has_number m) frames
other_stays n m [] ne = refl
other_stays n m (x ∷ xs) ne =
    let more = other_stays n m xs ne in
    elim (has_number n x) as (λ b. (b ≡ true → has_number m x ≡ false) → list_any (has_number m) (cond (not b) (x ∷ without n xs) (without n xs)) ≡ (has_number m x || list_any (has_number m) xs)) [
      | true ↦ λ no. rw (no refl) more
      | false ↦ λ no. ap (λ (b : Bool). has_number m x || b) more
    ] (apart n m x ne)

-- all numbers below this are taken
abbrev AreTaken : List Reference → ℕ → Type 0
AreTaken frames n = (k : ℕ) → k < n → list_any (has_number k) frames ≡ true

taken_few : (n : ℕ) (frames : List Reference) → AreTaken frames n → n ≤ length frames
taken_few zero frames taken = omega arith
taken_few (suc n) frames taken =
    let less = shorter n frames (taken n (omega arith)) in
    let rest : AreTaken (without n frames) n = λ k h. (let ne : n ≢ k = omega arith in other_stays n k frames ne ∙ taken k (omega arith)) in
    let few = taken_few n (without n frames) rest in
    omega (arith, less, few)

one_more_taken : (frames : List Reference) (n : ℕ) → AreTaken frames n → list_any (has_number n) frames ≡ true → AreTaken frames (n + 1)
one_more_taken frames n taken here k below =
    elim (cases_eq k n) [
      | inl same ↦ (let P : ℕ → Type 0 = λ j. list_any (has_number j) frames ≡ true in subst P (sym same) here)
      | inr other ↦ taken k (omega arith)
    ]

-- the last try finds a free one
last_free : (frames : List Reference) (n : ℕ) → AreTaken frames n → length frames ≤ n → list_any (has_number n) frames ≡ false
last_free frames n taken full =
    elim (list_any (has_number n) frames) as (λ b. list_any (has_number n) frames ≡ b → b ≡ false) [
      | true ↦ λ e. absurd (let few = taken_few (n + 1) frames (one_more_taken frames n taken e) in omega arith)
      | false ↦ λ e. refl
    ] refl

from_is_least : (frames : List Reference) (tries number : ℕ) → tries + number ≡ length frames → AreTaken frames number → IsLeastFree frames (free_number_from frames tries number)
unfolding free_number_from
from_is_least frames zero number all taken = record { free = last_free frames number taken (omega arith); least = taken }
from_is_least frames (suc tries) number all taken =
    elim (list_any (has_number number) frames) as (λ b. list_any (has_number number) frames ≡ b → IsLeastFree frames (if b then free_number_from frames tries (number + 1) else number)) [
      | true ↦ λ e. from_is_least frames tries (number + 1) (omega arith) (one_more_taken frames number taken e)
      | false ↦ λ e. record { free = e; least = taken }
    ] refl

pub free_number_is_least : FreeNumberIsLeast
free_number_is_least frames = from_is_least frames (length frames) 0 (omega arith) (λ k h. absurd (omega arith))

-- so many frames have their numbers
pub number_few : (frames : List Reference) → free_number frames ≤ length frames
number_few frames = taken_few (free_number frames) frames (free_number_is_least frames).least
