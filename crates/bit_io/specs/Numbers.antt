-- Bits that are to be read, as a number.
use Rattle.std.specs.Prelude.{ℕ, zero, suc, ◌+◌, ◌^◌, Bool, false, if◌then◌else◌, List, [], ◌∷◌, length}

-- the number that these bits spell
unfoldable pub number : List Bool → ℕ
number [] = 0
number (bit ∷ bits) = (if bit then 2 ^ length bits else 0) + number bits

-- the next n bits, with zeros past the end
unfoldable pub ahead : ℕ → List Bool → List Bool
ahead zero bits = []
ahead (suc n) [] = false ∷ ahead n []
ahead (suc n) (bit ∷ bits) = bit ∷ ahead n bits
