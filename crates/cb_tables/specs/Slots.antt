-- How a finder divides the windows of 32 bits: by their leading zeros, and by the bits behind the first 1.
use Rattle.std.specs.Prelude.{◌≡◌, ℕ, ◌+◌, ◌-◌, ◌/◌, ◌^◌, ◌<◌, ◌≤◌}

-- The window begins with so many zeros, a 1 and the next bits; or with at least as many zeros as the limit.
pub record IsSlot (limit bits window leading next : ℕ) : Type 0 where
  pub limited : leading ≤ limit
  pub of_bits : next < 2 ^ bits
  pub below : leading < limit → window / 2 ^ (31 - leading - bits) ≡ 2 ^ bits + next
  pub at_limit : leading ≡ limit → window / 2 ^ (32 - limit) ≡ 0
