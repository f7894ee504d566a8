-- What the tests of emulation prevention say, as facts.
use Rattle.std.proofs.Common.{◌≡◌, ℕ, ◌+◌, ◌-◌, ◌<◌, ◌≤◌, true, false, List, arith, slice_index}
use Rattle.std.proofs.lemmas.Grind.{common_steps}
use Rattle.bit_io.specs.Payload.{follows_zeros, is_prevention, is_forbidden}

pub zeros_before : (unit : List ℕ) (i : ℕ) → follows_zeros unit i ≡ true → (2 ≤ i) × (slice_index unit (i - 2) ≡ 0) × (slice_index unit (i - 1) ≡ 0)
zeros_before unit i h = grind (arith, common_steps)

pub zeros_here : (unit : List ℕ) (i : ℕ) → 2 ≤ i → slice_index unit (i - 2) ≡ 0 → slice_index unit (i - 1) ≡ 0 → follows_zeros unit i ≡ true
zeros_here unit i a b c = grind (arith, common_steps)

pub prevention_is : (unit : List ℕ) (i : ℕ) → is_prevention unit i ≡ true → (follows_zeros unit i ≡ true) × (slice_index unit i ≡ 3)
prevention_is unit i h = grind (arith, common_steps)

-- no byte up to 03 after two zero bytes is no emulation prevention byte
pub no_prevention : (unit : List ℕ) (i : ℕ) → (follows_zeros unit i ≡ true → 3 < slice_index unit i) → is_prevention unit i ≡ false
no_prevention unit i h = grind (arith, common_steps)

pub not_forbidden : (unit : List ℕ) (i : ℕ) → (follows_zeros unit i ≡ true → 3 ≤ slice_index unit i) → (1 ≤ i → is_prevention unit (i - 1) ≡ true → slice_index unit i ≤ 3) → is_forbidden unit i ≡ false
not_forbidden unit i h k = grind (arith, common_steps)

pub above_zero : (n : ℕ) → (n ≡ 0 → ⊥) → 0 < n
above_zero n h = omega arith

pub below_end : (at end : ℕ) → at ≤ end → (at ≡ end → ⊥) → at + 1 ≤ end
below_end at end within other = omega arith

pub before_end : (at end : ℕ) → at ≤ end → (at ≡ end → ⊥) → at < end
before_end at end within other = omega arith
