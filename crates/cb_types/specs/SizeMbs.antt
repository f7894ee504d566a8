-- What follows from a picture's size in macroblocks (H.264, 7.4.2.1.1 and 7.4.3, at 4:2:0).
use Rattle.std.specs.Prelude.{ℕ, ◌*◌, ◌≤◌}
use Rattle.cb_types.specs.declared.size.TheConstants.{MAX_PICTURE_MBS, MAX_SIDE_MBS}
use Rattle.cb_types.specs.declared.size.SizeMbs.{SizeMbs}

-- the number of macroblocks, PicSizeInMbs
abbrev pub macroblocks : SizeMbs → ℕ
macroblocks size = size.width * size.height

-- the sides of the luma array, PicWidthInSamplesL and PicHeightInSamplesL
abbrev pub luma_width : SizeMbs → ℕ
luma_width size = 16 * size.width

abbrev pub luma_height : SizeMbs → ℕ
luma_height size = 16 * size.height

-- the sides of each chroma array, PicWidthInSamplesC and PicHeightInSamplesC
abbrev pub chroma_width : SizeMbs → ℕ
chroma_width size = 8 * size.width

abbrev pub chroma_height : SizeMbs → ℕ
chroma_height size = 8 * size.height

-- the sizes that this decoder takes
pub record IsWithinLimits (size : SizeMbs) : Type 0 where
  pub some_column : 1 ≤ size.width
  pub columns : size.width ≤ MAX_SIDE_MBS
  pub some_row : 1 ≤ size.height
  pub rows : size.height ≤ MAX_SIDE_MBS
  pub count : macroblocks size ≤ MAX_PICTURE_MBS
