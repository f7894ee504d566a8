-- Pictures by their size in macroblocks.
use Rattle.std.specs.Prelude.{◌≡◌, ℕ, ◌*◌}
use Rattle.cb_types.specs.SizeMbs.{luma_width, luma_height}
use Rattle.cb_types.specs.declared.size.SizeMbs.{SizeMbs}
use Rattle.vd_plane.specs.SampleArray.{SameSides, filled}
use Rattle.vd_plane.specs.declared.picture.Picture.{Picture}

-- the luma array has this size. The chroma arrays of each picture have half its sides
pub record HasSize (picture : Picture) (size : SizeMbs) : Type 0 where
  pub width : picture.y.width ≡ luma_width size
  pub height : picture.y.height ≡ luma_height size

-- so many macroblocks across and down, and every sample 0
pub record IsZeros (picture : Picture) (width height : ℕ) : Type 0 where
  pub y : picture.y ≡ filled (16 * width) (16 * height) 0
  pub cb : picture.cb ≡ filled (8 * width) (8 * height) 0
  pub cr : picture.cr ≡ filled (8 * width) (8 * height) 0

-- each of the three arrays has the sides that it had
pub record SameSize (old new : Picture) : Type 0 where
  pub y : SameSides old.y new.y
  pub cb : SameSides old.cb new.cb
  pub cr : SameSides old.cr new.cr

-- both pictures have the same samples
pub record SameSamples (a b : Picture) : Type 0 where
  pub y : a.y ≡ b.y
  pub cb : a.cb ≡ b.cb
  pub cr : a.cr ≡ b.cr
