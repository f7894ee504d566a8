-- H.264, 9.1 and 9.1.1: the codeword of a value, and which values have one.
use Rattle.std.specs.Prelude.{ℕ, zero, suc, ◌+◌, ◌-◌, ◌*◌, ◌^◌, ◌<◌, ◌≤◌, ◌==◌, nat_le, Bool, false, if◌then◌else◌, List, [], ◌∷◌, ◌++◌, replicate, ℤ, pos, negsuc, unsigned_abs}
use Rattle.bit_io.specs.Bits.{u}

-- u(n): from 0 to 2 ^ n - 1
abbrev pub IsU : ℕ → ℕ → Type 0
IsU n v = v < 2 ^ n

-- the greatest k below the limit for which 2 ^ k is at most n
unfoldable pub exponent : ℕ → ℕ → ℕ
exponent zero n = 0
exponent (suc k) n = if nat_le (2 ^ k) n then k else exponent k n

-- ue(v): k zeros, and v + 1 in k + 1 bits, the first of which is 1
unfoldable pub ue : ℕ → List Bool
ue v = let k = exponent 32 (v + 1) in replicate k false ++ u (v + 1) (suc k)

-- from 0 to 2 ^ 32 - 2
abbrev pub IsUe : ℕ → Type 0
IsUe v = v ≤ 2 ^ 32 - 2

-- Table 9-3: 0, 1, -1, 2, -2 and so on have the numbers 0, 1, 2, 3, 4
abbrev pub se_number : ℤ → ℕ
se_number (pos n) = 2 * n - 1
se_number (negsuc n) = 2 * (n + 1)

-- se(v): ue of the value's number
unfoldable pub se : ℤ → List Bool
se v = ue (se_number v)

-- from -(2 ^ 31 - 1) to 2 ^ 31 - 1
abbrev pub IsSe : ℤ → Type 0
IsSe v = unsigned_abs v < 2 ^ 31

-- te(v): ue(v), but where the greatest value is 1 one bit, the reverse of the value
unfoldable pub te : ℕ → ℕ → List Bool
te v greatest = if greatest == 1 then (v == 0) ∷ [] else ue v

-- up to the greatest
abbrev pub IsTe : ℕ → ℕ → Type 0
IsTe greatest v = (v ≤ greatest) × IsUe v
