-- The luma quantizer of each macroblock of a slice. H.264, 7.4.3 and 7.4.5.
use Rattle.std.specs.Prelude.{ℕ, zero, suc, List, ℤ, pos, ◌+ℤ◌, unsigned_abs}
use Rattle.std.specs.Int.{int_rem_euclid}
use Rattle.cb_types.specs.declared.header.Header.{Header}
use Rattle.cb_types.specs.declared.macroblock.Macroblock.{Macroblock}
use Rattle.cb_types.specs.declared.picture_info.PictureInfo.{PictureInfo}
use Rattle.int_transform.specs.ChromaQuantizer.{chroma_qp_from}
use Rattle.motion.specs.Border.{macroblock_at}

-- SliceQPY
abbrev pub first_qp : PictureInfo → Header → ℕ
first_qp info header = unsigned_abs (pos 26 +ℤ info.pic_init_qp_minus26 +ℤ header.qp_delta)

-- ( QPY,PRED + mb_qp_delta + 52 ) % 52. A macroblock that spells no mb_qp_delta, as a skipped one and I_PCM, has 0 there and keeps QP.
abbrev pub next_qp : ℕ → ℤ → ℕ
next_qp qp delta = unsigned_abs (int_rem_euclid (pos qp +ℤ delta +ℤ pos 52) (pos 52))

-- QP before the macroblock of this number
unfoldable pub qp_before : PictureInfo → Header → List Macroblock → ℕ → ℕ
qp_before info header macroblocks zero = first_qp info header
qp_before info header macroblocks (suc number) = next_qp (qp_before info header macroblocks number) (macroblock_at macroblocks number).qp_delta

-- its QP, and QPc of both chroma arrays
abbrev pub qp_of : PictureInfo → Header → List Macroblock → ℕ → ℕ
qp_of info header macroblocks number = qp_before info header macroblocks (suc number)

abbrev pub chroma_qp_of : PictureInfo → ℕ → ℕ
chroma_qp_of info qp = chroma_qp_from qp info.chroma_qp_index_offset
