-- Chroma samples at eighth places (H.264, 8.4.2.2.2).
use Rattle.std.specs.Prelude.{ℕ, ◌+◌, ◌-◌, ◌*◌, ◌/◌, ℤ, pos, ◌+ℤ◌}
use Rattle.vd_plane.specs.SampleArray.{SampleArray, nearest_sample}
use Rattle.inter_pred.specs.Places.{fraction, whole}

-- the sample so many eighths right of the first of four whole ones and so many below it: the second stands right of the first,
-- and the last two below these
unfoldable pub eighth : ℕ → ℕ → ℕ → ℕ → ℕ → ℕ → ℕ
eighth right below p q r s = ((8 - right) * (8 - below) * p + right * (8 - below) * q + (8 - right) * below * r + right * below * s + 32) / 64

-- the chroma sample at a place in eighths
unfoldable pub chroma_at : SampleArray → ℤ → ℤ → ℕ
chroma_at a x y = eighth (fraction x 8) (fraction y 8) (at 0 0) (at 1 0) (at 0 1) (at 1 1)
  where
    at : ℕ → ℕ → ℕ
    at c r = nearest_sample a (whole x 8 +ℤ pos c) (whole y 8 +ℤ pos r)
