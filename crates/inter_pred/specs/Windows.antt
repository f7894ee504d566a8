-- Slices in which samples of a plane stand in rows.
use Rattle.std.specs.Prelude.{◌≡◌, ℕ, ◌+◌, ◌*◌, ◌<◌, ◌≤◌, ℤ, pos, ◌+ℤ◌, List, length, slice_index}
use Rattle.vd_plane.specs.SampleArray.{SampleArray, nearest_sample}

-- a rectangle of the plane from column x and row y on, with the nearest samples where it lies outside, stands in rows, so many samples
-- from the start of one to that of the next
pub record Shows (a : SampleArray) (x y : ℤ) (columns rows : ℕ) (samples : List ℕ) (stride : ℕ) : Type 0 where
  pub samples_are : (c r : ℕ) → c < columns → r < rows → slice_index samples (r * stride + c) ≡ nearest_sample a (x +ℤ pos c) (y +ℤ pos r)
  pub room : (r : ℕ) → r < rows → r * stride + columns ≤ length samples
