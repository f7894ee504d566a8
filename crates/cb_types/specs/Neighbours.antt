-- H.264, 6.4.9: the macroblocks beside a macroblock, by place alone, in a picture so many macroblocks wide. A neighbour is
-- available where it is of the same slice.
use Rattle.std.specs.Prelude.{◌≡◌, ℕ, ◌+◌, ◌-◌, ◌/◌, ◌%◌, nat_le, nat_lt, ◌&&◌, if◌then◌else◌, [], ◌∷◌, slice_index_or, Option, Some, None}

-- mbAddrA, left: none in the first column
abbrev pub neighbour_a : ℕ → ℕ → Option ℕ
neighbour_a width mb = if nat_lt 0 (mb % width) then Some (mb - 1) else None

-- mbAddrB, above: none in the first row
abbrev pub neighbour_b : ℕ → ℕ → Option ℕ
neighbour_b width mb = if nat_le width mb then Some (mb - width) else None

-- mbAddrC, above and right: none in the first row and in the last column
abbrev pub neighbour_c : ℕ → ℕ → Option ℕ
neighbour_c width mb = if nat_le width mb && nat_lt 0 ((mb + 1) % width) then Some (mb - width + 1) else None

-- mbAddrD, above and left: none in the first row and in the first column
abbrev pub neighbour_d : ℕ → ℕ → Option ℕ
neighbour_d width mb = if nat_le width mb && nat_lt 0 (mb % width) then Some (mb - width - 1) else None

-- A to D by their numbers, 0 to 3
abbrev pub neighbour : ℕ → ℕ → ℕ → Option ℕ
neighbour width mb which = slice_index_or (neighbour_a width mb ∷ neighbour_b width mb ∷ neighbour_c width mb ∷ neighbour_d width mb ∷ []) which None

-- The macroblock lies at this column and this row of the picture.
abbrev pub LiesAt : ℕ → ℕ → ℕ → ℕ → Type 0
LiesAt width mb column row = (mb % width ≡ column) × (mb / width ≡ row)
