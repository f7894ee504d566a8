-- What the filter asks of a picture's marks.
use Rattle.std.specs.Prelude.{◌≡◌, ◌<◌, ◌≤◌, ◌≤ℤ◌, negsuc, pos, List, length}
use Rattle.std.specs.List.{All}
use Rattle.cb_types.specs.SizeMbs.{macroblocks}
use Rattle.cb_types.specs.declared.macroblock.Vector.{Vector}
use Rattle.cb_types.specs.declared.mark.MbMark.{MbMark}
use Rattle.cb_types.specs.declared.size.SizeMbs.{SizeMbs}
use Rattle.int_transform.specs.Bounds.{IsWithin}

-- -2,048 to 2,047.75 luma samples across, and -512 to 511.75 down (H.264, Table A-1)
pub record IsVectorWithinLimits (v : Vector) : Type 0 where
  pub left : negsuc 8191 ≤ℤ v.x
  pub right : v.x ≤ℤ pos 8191
  pub up : negsuc 2047 ≤ℤ v.y
  pub down : v.y ≤ℤ pos 2047

-- QP of 0 to 51, disable_deblocking_filter_idc of 0 to 2, FilterOffsetA and FilterOffsetB of -12 to 12, pictures that are entries of a
-- picture info, and vectors within the limits
pub record IsMark (mark : MbMark) : Type 0 where
  pub qp : mark.qp ≤ 51
  pub idc : mark.idc ≤ 2
  pub alpha : IsWithin 12 mark.alpha
  pub beta : IsWithin 12 mark.beta
  pub pictures : All (λ place. place < 16) mark.pictures
  pub vectors : All IsVectorWithinLimits mark.vectors

-- one mark for each macroblock
pub record AreMarks (size : SizeMbs) (marks : List MbMark) : Type 0 where
  pub count : length marks ≡ macroblocks size
  pub each : All IsMark marks
