-- Rounded means and the clip of H.264's intra prediction.
use Rattle.std.specs.Prelude.{ℕ, ◌+◌, ◌*◌, ◌/◌, min, ℤ, pos, negsuc, List, Option, Some, None, sum}

abbrev pub mean2 : ℕ → ℕ → ℕ
mean2 a b = (a + b + 1) / 2

abbrev pub mean3 : ℕ → ℕ → ℕ → ℕ
mean3 a b c = (a + 2 * b + c + 2) / 4

-- The mean of a block's sides of n samples each. A missing side is left out, and without both it is 128 (8.3.1.2.3, 8.3.3.3, 8.3.4.1).
abbrev pub side_mean : ℕ → Option (List ℕ) → Option (List ℕ) → ℕ
side_mean n (Some left) (Some top) = (sum left + sum top + n) / (2 * n)
side_mean n (Some left) None = (sum left + n / 2) / n
side_mean n None (Some top) = (sum top + n / 2) / n
side_mean n None None = 128

-- Clip1 at 8 bits (5.7)
abbrev pub clipped : ℤ → ℕ
clipped (pos n) = min n 255
clipped (negsuc n) = 0
