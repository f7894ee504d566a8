-- Emulation prevention in the other direction: the bytes of a NAL unit from those of its payload. H.264, 7.4.1.
use Rattle.std.specs.Prelude.{◌≡◌, ℕ, zero, suc, nat_le, false, if◌then◌else◌, List, [], ◌∷◌, ◌++◌, length}
use Rattle.bit_io.specs.Payload.{IsAllowedBefore, follows_zeros}

-- emulation_prevention_three_byte, where two zero bytes stand before these: 03 before a byte up to 03 and before the end
abbrev pub prevention : List ℕ → List ℕ
prevention [] = 3 ∷ []
prevention (byte ∷ bytes) = if nat_le byte 3 then 3 ∷ [] else []

-- the payload's bytes with an emulation prevention byte after 00 00 wherever one is due
unfoldable pub escaped : List ℕ → List ℕ
escaped [] = []
escaped (zero ∷ zero ∷ bytes) = 0 ∷ 0 ∷ prevention bytes ++ escaped bytes
escaped (byte ∷ bytes) = byte ∷ escaped bytes

-- The unit is what escaping gives: no byte of it is forbidden, and it doesn't end in two zero bytes.
pub record IsEscaped (unit : List ℕ) : Type 0 where
  pub allowed : IsAllowedBefore unit (length unit)
  pub ends : follows_zeros unit (length unit) ≡ false

-- The rest is for writing byte by byte, behind so many zero bytes.

-- a byte, with the emulation prevention byte that is due before it
abbrev pub with_prevention : ℕ → ℕ → List ℕ
with_prevention (suc (suc run)) byte = if nat_le byte 3 then 3 ∷ byte ∷ [] else byte ∷ []
with_prevention run byte = byte ∷ []

-- the emulation prevention byte that is due before the end
abbrev pub prevention_at_end : ℕ → List ℕ
prevention_at_end (suc (suc run)) = 3 ∷ []
prevention_at_end run = []

-- How many zero bytes stand before the next byte, from how many stand before this one. An emulation prevention byte parts
-- a third one from the two before it.
abbrev pub zeros_behind : ℕ → ℕ → ℕ
zeros_behind run (suc byte) = 0
zeros_behind zero zero = 1
zeros_behind (suc zero) zero = 2
zeros_behind (suc (suc run)) zero = 1
