-- Places between samples, and the range of a sample (H.264, 5.7 and 8.4.2.2).
use Rattle.std.specs.Prelude.{ℕ, ℤ, pos, unsigned_abs}
use Rattle.std.specs.Int.{int_div_euclid, int_rem_euclid}
use Rattle.vd_plane.specs.SampleArray.{nearest}

-- Clip1: the number of 0 to 255 that is nearest to z
abbrev pub clip : ℤ → ℕ
clip z = nearest 256 z

-- of a place that counts n parts to a sample, the last whole sample at or before it
abbrev pub whole : ℤ → ℕ → ℤ
whole z n = int_div_euclid z (pos n)

-- and how many parts the place lies beyond that sample, 0 to n - 1
abbrev pub fraction : ℤ → ℕ → ℕ
fraction z n = unsigned_abs (int_rem_euclid z (pos n))
