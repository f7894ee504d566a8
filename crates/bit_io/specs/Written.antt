-- What a writer keeps: bytes, of which the last is filled up by zeros.
use Rattle.std.specs.Prelude.{◌≡◌, ℕ, ◌-◌, ◌*◌, ◌<◌, Bool, false, List, ◌++◌, length, replicate, take}
use Rattle.bit_io.specs.Bits.{bits_of}

-- the bits of the bytes but for some at the end
unfoldable pub all_but : ℕ → List ℕ → List Bool
all_but free bytes = take (8 * length bytes - free) (bits_of bytes)

-- a writer's bytes, the last few bits of the last byte not yet written
pub record HasFree (bytes : List ℕ) (free : ℕ) : Type 0 where
  pub few : free < 8
  pub zeros : bits_of bytes ≡ all_but free bytes ++ replicate free false
