-- Bits are in the order in which they are sent: the highest of a number or a byte comes first.
use Rattle.std.specs.Prelude.{◌≡◌, ℕ, zero, suc, ◌/◌, ◌%◌, ◌^◌, ◌<◌, ◌==◌, Bool, false, List, [], ◌∷◌, ◌++◌, replicate}
use Rattle.std.specs.List.{flat_map}

-- H.264, 7.2, u(n): the n low bits of v
unfoldable pub u : ℕ → ℕ → List Bool
u v zero = []
u v (suc n) = (v / 2 ^ n % 2 == 1) ∷ u v n

-- the bits of these bytes
unfoldable pub bits_of : List ℕ → List Bool
bits_of bytes = flat_map (λ byte. u byte 8) bytes

-- The bytes hold these bits, and fewer than eight zeros that fill up the last byte.
abbrev pub Holds : List ℕ → List Bool → Type 0
Holds bytes bits = (zeros : ℕ) × (zeros < 8) × (bits_of bytes ≡ bits ++ replicate zeros false)
