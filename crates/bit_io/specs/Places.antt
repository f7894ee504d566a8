-- Where a reader stands in its bytes.
use Rattle.std.specs.Prelude.{◌≡◌, ℕ, suc, ◌+◌, ◌-◌, ◌*◌, ◌<◌, ◌≤◌, nat_lt, Bool, if◌then◌else◌, List, [], ◌∷◌, length}
use Rattle.bit_io.specs.Bits.{bits_of}

-- how many bits there are through the last 1
unfoldable pub through_last_one : List Bool → ℕ
through_last_one [] = 0
through_last_one (bit ∷ bits) = if nat_lt 0 (through_last_one bits) then suc (through_last_one bits) else (if bit then 1 else 0)

-- A reader stands at a bit of a byte, and knows which bit of which byte is the last 1.
pub record Stands (bytes : List ℕ) (byte bit last_byte last_bit : ℕ) : Type 0 where
  pub of_byte : bit < 8
  pub within : 8 * byte + bit ≤ 8 * length bytes
  pub last_of_byte : last_bit < 8
  pub last : 8 * last_byte + last_bit ≡ through_last_one (bits_of bytes) - 1
