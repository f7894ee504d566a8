-- A slice, with all that its construction stands on.
use Rattle.std.specs.Prelude.{ℕ, ◌+◌, ◌/◌, ◌%◌, List, Option}
use Rattle.cb_types.specs.declared.header.Header.{Header}
use Rattle.cb_types.specs.declared.macroblock.Macroblock.{Macroblock}
use Rattle.cb_types.specs.declared.macroblock.MbKind.{MbKind}
use Rattle.cb_types.specs.declared.picture_info.PictureInfo.{PictureInfo}
use Rattle.cb_types.specs.declared.size.SizeMbs.{SizeMbs}
use Rattle.motion.specs.Around.{around_of}
use Rattle.motion.specs.Border.{macroblock_at}
use Rattle.motion.specs.declared.around.Around.{Around}
use Rattle.vd_plane.specs.declared.picture.Picture.{Picture}

-- The picture's info and size, the slice's header, its reference list as places in the info's references, the pictures at these
-- places, and its macroblocks, which are numbered from 0.
pub record Slice : Type 0 where
  pub info : PictureInfo
  pub header : Header
  pub list : List (Option ℕ)
  pub pictures : List (Option Picture)
  pub size : SizeMbs
  pub macroblocks : List Macroblock

abbrev pub slice_of : PictureInfo → Header → List (Option ℕ) → List (Option Picture) → SizeMbs → List Macroblock → Slice
slice_of info header list pictures size macroblocks =
    record { info = info; header = header; list = list; pictures = pictures; size = size; macroblocks = macroblocks }

abbrev pub macroblock : Slice → ℕ → Macroblock
macroblock slice number = macroblock_at slice.macroblocks number

abbrev pub kind_at : Slice → ℕ → MbKind
kind_at slice number = (macroblock slice number).kind

abbrev pub neighbours : Slice → ℕ → Around
neighbours slice number = around_of slice.header.first_mb slice.size.width number

-- where a macroblock stands in the picture, counted in macroblocks
abbrev pub column_of : Slice → ℕ → ℕ
column_of slice number = (slice.header.first_mb + number) % slice.size.width

abbrev pub row_of : Slice → ℕ → ℕ
row_of slice number = (slice.header.first_mb + number) / slice.size.width
