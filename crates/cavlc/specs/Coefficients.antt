-- H.264, 9.2: what is spelled of a block's coefficients. The block is a list in scan order; its spelling goes from the last
-- coefficient other than 0 to the first.
use Rattle.std.specs.Prelude.{ℕ, zero, suc, ◌==◌, min, if◌then◌else◌, List, [], ◌∷◌, length, drop, reverse, sum, ℤ, pos, negsuc, unsigned_abs}

-- the coefficients other than 0, in scan order
unfoldable pub nonzero : List ℤ → List ℤ
nonzero [] = []
nonzero (pos zero ∷ c) = nonzero c
nonzero (pos (suc n) ∷ c) = pos (suc n) ∷ nonzero c
nonzero (negsuc n ∷ c) = negsuc n ∷ nonzero c

-- how many zeros stand right before each of them, where so many zeros stand before the list
unfoldable pub gaps : ℕ → List ℤ → List ℕ
gaps before [] = []
gaps before (pos zero ∷ c) = gaps (suc before) c
gaps before (pos (suc n) ∷ c) = before ∷ gaps 0 c
gaps before (negsuc n ∷ c) = before ∷ gaps 0 c

-- the levels in the order in which they are spelled
abbrev pub levels : List ℤ → List ℤ
levels c = reverse (nonzero c)

-- TotalCoeff
abbrev pub total_coeff : List ℤ → ℕ
total_coeff c = length (levels c)

-- the levels 1 and -1 with which such a list begins
unfoldable pub leading_ones : List ℤ → ℕ
leading_ones [] = 0
leading_ones (level ∷ levels) = if unsigned_abs level == 1 then suc (leading_ones levels) else 0

-- TrailingOnes: the last levels of 1 and -1 in scan order, three at most
abbrev pub trailing_ones : List ℤ → ℕ
trailing_ones c = min 3 (leading_ones (levels c))

-- total_zeros: the zeros before the last level
abbrev pub total_zeros : List ℤ → ℕ
total_zeros c = sum (gaps 0 c)

-- run_before of each level but the first in scan order, whose run is what is then left of the zeros
abbrev pub runs : List ℤ → List ℕ
runs c = reverse (drop 1 (gaps 0 c))
