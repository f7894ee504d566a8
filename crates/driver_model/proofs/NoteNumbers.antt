-- The least free number is one that no note has: so many numbers can't fill one place more.
use Rattle.std.proofs.Common.{◌≡◌, ◌≢◌, ℕ, zero, suc, ◌+◌, ◌<◌, ◌≤◌, ◌==◌, Bool, true, false, not, ◌||◌, cond, if◌then◌else◌, List, [], ◌∷◌, length, filter, refl, sym, ap, ◌∙◌, subst, arith, inl, inr}
use Rattle.std.specs.List.{list_any}
use Rattle.std.proofs.lemmas.Bool.{cases_eq}
use Rattle.std.proofs.lemmas.Bool.Decides.{nat_tests}
use Rattle.driver_model.specs.States.{free_number, free_number_from}

-- the number is among these
abbrev pub is_taken : ℕ → List ℕ → Bool
is_taken n numbers = list_any (λ taken. taken == n) numbers

abbrev without : ℕ → List ℕ → List ℕ
without n numbers = filter (λ taken. not (taken == n)) numbers

shorter_or_same : (n : ℕ) (numbers : List ℕ) → length (without n numbers) ≤ length numbers
shorter_or_same n [] = omega arith
shorter_or_same n (x ∷ xs) =
    let more = shorter_or_same n xs in
    elim (x == n) as (λ b. length (cond (not b) (x ∷ without n xs) (without n xs)) ≤ length (x ∷ xs)) [ true ↦ omega (arith, more) | false ↦ omega (arith, more) ]

shorter : (n : ℕ) (numbers : List ℕ) → is_taken n numbers ≡ true → length (without n numbers) + 1 ≤ length numbers
shorter n [] some = absurd cc
shorter n (x ∷ xs) some =
    elim (x == n) as (λ b. (b || is_taken n xs) ≡ true → length (cond (not b) (x ∷ without n xs) (without n xs)) + 1 ≤ length (x ∷ xs)) [
      | true ↦ λ e. (let more = shorter_or_same n xs in omega (arith, more))
      | false ↦ λ e. (let more = shorter n xs e in omega (arith, more))
    ] some

-- another number is still there
apart : (n m x : ℕ) → n ≢ m → (x == n) ≡ true → (x == m) ≡ false
apart n m x ne e = grind (arith, nat_tests)

other_stays : (n m : ℕ) (numbers : List ℕ) → n ≢ m → is_taken m (without n numbers) ≡ is_taken m numbers
other_stays n m [] ne = refl
other_stays n m (x ∷ xs) ne =
    let more = other_stays n m xs ne in
    elim (x == n) as (λ b. (b ≡ true → (x == m) ≡ false) → is_taken m (cond (not b) (x ∷ without n xs) (without n xs)) ≡ ((x == m) || is_taken m xs)) [
      | true ↦ λ no. rw (no refl) more
      | false ↦ λ no. ap (λ (b : Bool). (x == m) || b) more
    ] (apart n m x ne)

-- all numbers below this are taken
abbrev AreTaken : List ℕ → ℕ → Type 0
AreTaken numbers n = (k : ℕ) → k < n → is_taken k numbers ≡ true

taken_few : (n : ℕ) (numbers : List ℕ) → AreTaken numbers n → n ≤ length numbers
taken_few zero numbers taken = omega arith
taken_few (suc n) numbers taken =
    let less = shorter n numbers (taken n (omega arith)) in
    let rest : AreTaken (without n numbers) n = λ k h. (let ne : n ≢ k = omega arith in other_stays n k numbers ne ∙ taken k (omega arith)) in
    let few = taken_few n (without n numbers) rest in
    omega (arith, less, few)

one_more_taken : (numbers : List ℕ) (n : ℕ) → AreTaken numbers n → is_taken n numbers ≡ true → AreTaken numbers (n + 1)
one_more_taken numbers n taken here k below =
    elim (cases_eq k n) [
      | inl same ↦ (let P : ℕ → Type 0 = λ j. is_taken j numbers ≡ true in subst P (sym same) here)
      | inr other ↦ taken k (omega arith)
    ]

-- the last try finds a free one
last_free : (numbers : List ℕ) (n : ℕ) → AreTaken numbers n → length numbers ≤ n → is_taken n numbers ≡ false
last_free numbers n taken full =
    elim (is_taken n numbers) as (λ b. is_taken n numbers ≡ b → b ≡ false) [
      | true ↦ λ e. absurd (let few = taken_few (n + 1) numbers (one_more_taken numbers n taken e) in omega arith)
      | false ↦ λ e. refl
    ] refl

from_is_free : (numbers : List ℕ) (tries number : ℕ) → tries + number ≡ length numbers → AreTaken numbers number → is_taken (free_number_from numbers tries number) numbers ≡ false
unfolding free_number_from
from_is_free numbers zero number all taken = last_free numbers number taken (omega arith)
from_is_free numbers (suc tries) number all taken =
    elim (is_taken number numbers) as (λ b. is_taken number numbers ≡ b → is_taken (if b then free_number_from numbers tries (number + 1) else number) numbers ≡ false) [
      | true ↦ λ e. from_is_free numbers tries (number + 1) (omega arith) (one_more_taken numbers number taken e)
      | false ↦ λ e. e
    ] refl

pub free_number_is_free : (numbers : List ℕ) → is_taken (free_number numbers) numbers ≡ false
free_number_is_free numbers = from_is_free numbers (length numbers) 0 (omega arith) (λ k h. absurd (omega arith))
