-- At most every second byte of a unit is an emulation prevention byte.
use Rattle.std.proofs.Common.{◌≡◌, ℕ, ◌+◌, ◌-◌, ◌*◌, ◌≤◌, Bool, true, false, List, length, arith, ap, sym, ◌∙◌, zero, suc, slice_index, length-append, refl, subst, true≢false, [], ◌∷◌}
use Rattle.bit_io.specs.Payload.{follows_zeros, is_prevention, payload}
use Rattle.bit_io.proofs.Kept.{kept, kept_less, kept_more}
use Rattle.bit_io.proofs.Zeros.{prevention_is, zeros_before}

-- the place before an emulation prevention byte has none
none_before : (unit : List ℕ) (n : ℕ) → is_prevention unit n ≡ true → (1 ≤ n) × (is_prevention unit (n - 1) ≡ false)
none_before unit n here =
    let is : (follows_zeros unit n ≡ true) × (slice_index unit n ≡ 3) = prevention_is unit n here in
    let zeros : (2 ≤ n) × (slice_index unit (n - 2) ≡ 0) × (slice_index unit (n - 1) ≡ 0) = zeros_before unit n is.0 in
    (omega arith, other (is_prevention unit (n - 1)) (λ yes. let three : slice_index unit (n - 1) ≡ 3 = (prevention_is unit (n - 1) yes).1 in omega arith))
  where
    other : (b : Bool) → (b ≡ true → ⊥) → b ≡ false
    other true never = absurd (never refl)
    other false _ = refl

-- half of the first n bytes are kept, and one more where the last of them is
abbrev IsHalf : List ℕ → ℕ → Type 0
IsHalf unit n = (n ≤ 2 * length (kept unit n)) × (1 ≤ n → is_prevention unit (n - 1) ≡ false → n + 1 ≤ 2 * length (kept unit n))

half_step : (unit : List ℕ) (n : ℕ) (b : Bool) → is_prevention unit n ≡ b → IsHalf unit n → IsHalf unit (n + 1)
half_step unit n false here before =
    let more : length (kept unit (n + 1)) ≡ length (kept unit n) + 1 = ap length (kept_more unit n here) ∙ length-append (kept unit n) (slice_index unit n ∷ []) in
    let half : n ≤ 2 * length (kept unit n) = before.0 in
    (omega arith, λ _ _. omega arith)
half_step unit n true here before =
    let same : length (kept unit (n + 1)) ≡ length (kept unit n) = ap length (kept_less unit n here) in
    let none : (1 ≤ n) × (is_prevention unit (n - 1) ≡ false) = none_before unit n here in
    let more : n + 1 ≤ 2 * length (kept unit n) = before.1 none.0 none.1 in
    let back : (n + 1) - 1 ≡ n = omega arith in
    (omega arith, λ _ no. absurd (true≢false (sym here ∙ (ap (is_prevention unit) (sym back) ∙ no))))

half : (unit : List ℕ) (n : ℕ) → IsHalf unit n
half unit zero = (omega arith, λ one _. absurd (omega arith))
half unit (suc n) = let one : n + 1 ≡ suc n = omega arith in subst (IsHalf unit) one (half_step unit n (is_prevention unit n) refl (half unit n))

-- a unit is at most twice as long as its payload
pub length-payload : (unit : List ℕ) → length unit ≤ 2 * length (payload unit)
length-payload unit = (half unit (length unit)).0
