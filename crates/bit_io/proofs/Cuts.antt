-- A unit that is cut behind a byte other than 00: nothing behind the cut depends on what stands before it, but that an
-- emulation prevention byte may stand right before it.
use Rattle.std.proofs.Common.{◌≡◌, ℕ, zero, suc, ◌+◌, ◌-◌, ◌<◌, ◌≤◌, Bool, true, false, ◌&&◌, ◌||◌, eqb, ltb, leb, List, [], ◌∷◌, ◌++◌, length, slice_index, ◌⊎◌, refl, sym, ap, ap₂, ◌∙◌, arith, append-nil, append_assoc, add-zero, le-leb, inl, inr}
use Rattle.std.proofs.lemmas.Bool.{cases_lt}
use Rattle.bit_io.specs.Payload.{IsAllowedBefore, follows_zeros, is_prevention, is_forbidden, payload}
use Rattle.bit_io.proofs.Kept.{kept, kept_less, kept_more}
use Rattle.bit_io.proofs.Zeros.{zeros_before, zeros_here, not_forbidden}

-- the bytes from place k on are the rest
pub record Cut (unit rest : List ℕ) (k : ℕ) : Type 0 where
  pub some : 1 ≤ k
  pub size : length unit ≡ k + length rest
  pub at : (i : ℕ) → slice_index unit (k + i) ≡ slice_index rest i
  pub before : 0 < slice_index unit (k - 1)

same_test : (a b : Bool) → (a ≡ true → b ≡ true) → (b ≡ true → a ≡ true) → a ≡ b
same_test true b to back = sym (to refl)
same_test false true to back = back refl
same_test false false to back = refl

module _ (unit rest : List ℕ) (k : ℕ) (cut : Cut unit rest k) where
  not_zero : (i : ℕ) → i ≡ k - 1 → slice_index unit i ≡ 0 → ⊥
  not_zero i e zero_there = omega (arith, cut.before, ap (slice_index unit) e)

  behind : (i j : ℕ) → i ≡ k + j → slice_index unit i ≡ slice_index rest j
  behind i j e = ap (slice_index unit) e ∙ cut.at j

  to_rest : (i : ℕ) → follows_zeros unit (k + i) ≡ true → follows_zeros rest i ≡ true
  to_rest zero h = let zeros = zeros_before unit (k + 0) h in absurd (not_zero (k + 0 - 1) (omega arith) zeros.2)
  to_rest (suc zero) h = let zeros = zeros_before unit (k + 1) h in absurd (not_zero (k + 1 - 2) (omega arith) zeros.1)
  to_rest (suc (suc j)) h =
      let zeros = zeros_before unit (k + suc (suc j)) h in
      let i = suc (suc j) in
      zeros_here rest i (omega arith)
      (sym (behind (k + i - 2) (i - 2) (omega arith)) ∙ zeros.1)
      (sym (behind (k + i - 1) (i - 1) (omega arith)) ∙ zeros.2)

  from_rest : (i : ℕ) → follows_zeros rest i ≡ true → follows_zeros unit (k + i) ≡ true
  from_rest i h =
      let zeros = zeros_before rest i h in
      let two : 2 ≤ i = zeros.0 in
      zeros_here unit (k + i) (omega arith)
      (behind (k + i - 2) (i - 2) (omega arith) ∙ zeros.1)
      (behind (k + i - 1) (i - 1) (omega arith) ∙ zeros.2)

  pub follows_cut : (i : ℕ) → follows_zeros unit (k + i) ≡ follows_zeros rest i
  follows_cut i = same_test (follows_zeros unit (k + i)) (follows_zeros rest i) (to_rest i) (from_rest i)

  pub prevention_cut : (i : ℕ) → is_prevention unit (k + i) ≡ is_prevention rest i
  prevention_cut i = ap₂ (λ (f : Bool) (x : ℕ). f && eqb x 3) (follows_cut i) (cut.at i)

  kept_next : (i : ℕ) (b : Bool) → is_prevention rest i ≡ b → kept unit (k + i) ≡ kept unit k ++ kept rest i → kept unit (k + i + 1) ≡ kept unit k ++ kept rest (i + 1)
  kept_next i true here before = kept_less unit (k + i) (prevention_cut i ∙ here) ∙ before ∙ ap (λ x. kept unit k ++ x) (sym (kept_less rest i here))
  kept_next i false here before =
      kept_more unit (k + i) (prevention_cut i ∙ here)
      ∙ ap₂ (λ (x : List ℕ) (y : ℕ). x ++ y ∷ []) before (cut.at i)
      ∙ append_assoc (kept unit k) (kept rest i) (slice_index rest i ∷ [])
      ∙ ap (λ x. kept unit k ++ x) (sym (kept_more rest i here))

  kept_cut : (n : ℕ) → kept unit (k + n) ≡ kept unit k ++ kept rest n
  kept_cut zero = ap (kept unit) (add-zero k) ∙ sym (append-nil (kept unit k))
  kept_cut (suc n) =
      let one : k + suc n ≡ k + n + 1 = omega arith in
      let next : n + 1 ≡ suc n = omega arith in
      ap (kept unit) one ∙ kept_next n (is_prevention rest n) refl (kept_cut n) ∙ ap (λ x. kept unit k ++ kept rest x) next

  pub payload_cut : payload unit ≡ kept unit k ++ payload rest
  payload_cut = ap (kept unit) cut.size ∙ kept_cut (length rest)

  forbidden_cut : (j : ℕ) → is_forbidden unit (k + suc j) ≡ is_forbidden rest (suc j)
  forbidden_cut j =
      let up : k + suc j - 1 ≡ k + j = omega arith in
      let down : j ≡ suc j - 1 = omega arith in
      let here : leb 1 (k + suc j) ≡ leb 1 (suc j) = le-leb 1 (k + suc j) (omega arith) ∙ sym (le-leb 1 (suc j) (omega arith)) in
      let past : is_prevention unit (k + suc j - 1) ≡ is_prevention rest (suc j - 1) = ap (is_prevention unit) up ∙ prevention_cut j ∙ ap (is_prevention rest) down in
      ap₂ (λ (f : Bool) (x : ℕ). (f && ltb x 3) || (leb 1 (k + suc j) && is_prevention unit (k + suc j - 1) && ltb 3 x)) (follows_cut (suc j)) (cut.at (suc j))
      ∙ ap₂ (λ (one p : Bool). (follows_zeros rest (suc j) && ltb (slice_index rest (suc j)) 3) || (one && p && ltb 3 (slice_index rest (suc j)))) here past

  first_allowed : (is_prevention unit (k - 1) ≡ true → 0 < length rest → slice_index rest 0 ≤ 3) → 0 < length rest → is_forbidden unit (k + 0) ≡ false
  first_allowed may_follow within =
      not_forbidden unit (k + 0) (λ zeros. absurd (none_at_once (sym (follows_cut 0) ∙ zeros)))
      (λ one after. let before : k + 0 - 1 ≡ k - 1 = omega arith in omega (arith, cut.at 0, may_follow (ap (is_prevention unit) (sym before) ∙ after) within))
    where
      none_at_once : follows_zeros rest 0 ≡ true → ⊥
      none_at_once h = let zeros = zeros_before rest 0 h in omega (arith, zeros.0)

  -- allowed before the cut and behind it
  pub allowed_from_cut : IsAllowedBefore unit k → IsAllowedBefore rest (length rest) → (is_prevention unit (k - 1) ≡ true → 0 < length rest → slice_index rest 0 ≤ 3) → IsAllowedBefore unit (length unit)
  allowed_from_cut front back may_follow = λ i below. split i below (cases_lt i k)
    where
      there : (j : ℕ) → j < length rest → is_forbidden unit (k + j) ≡ false
      there zero below = first_allowed may_follow below
      there (suc j) below = forbidden_cut j ∙ back (suc j) below

      split : (i : ℕ) → i < length unit → (i < k) ⊎ (k ≤ i) → is_forbidden unit i ≡ false
      split i below = elim [
        | inl early ↦ front i early
        | inr late ↦ let whole : k + (i - k) ≡ i = omega arith in ap (is_forbidden unit) (sym whole) ∙ there (i - k) (omega (arith, cut.size))
      ]

  pub allowed_behind_cut : IsAllowedBefore unit (length unit) → IsAllowedBefore rest (length rest)
  allowed_behind_cut allowed zero below = refl
  allowed_behind_cut allowed (suc j) below = sym (forbidden_cut j) ∙ allowed (k + suc j) (omega (arith, cut.size))

  pub ends_cut : follows_zeros unit (length unit) ≡ follows_zeros rest (length rest)
  ends_cut = ap (follows_zeros unit) cut.size ∙ follows_cut (length rest)
