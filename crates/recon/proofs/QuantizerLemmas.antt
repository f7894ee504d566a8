-- The quantizer from macroblock to macroblock, and the modes before the first.
use Rattle.std.proofs.Common.{◌≡◌, ℕ, suc, ◌+◌, Bool, List, [], refl, ap, ◌∙◌, arith}
use Rattle.std.specs.Prelude.{ℤ}
use Rattle.cb_types.specs.declared.header.Header.{Header}
use Rattle.cb_types.specs.declared.macroblock.Macroblock.{Macroblock}
use Rattle.cb_types.specs.declared.picture_info.PictureInfo.{PictureInfo}
use Rattle.motion.specs.Border.{macroblock_at}
use Rattle.recon.specs.Columns.{AreColumns}
use Rattle.recon.specs.Modes.{slice_modes}
use Rattle.recon.specs.Quantizer.{first_qp, next_qp, qp_before}
use Rattle.recon.specs.declared.columns.Columns.{Columns}

pub qp_start : (info : PictureInfo) (header : Header) (macroblocks : List Macroblock) → first_qp info header ≡ qp_before info header macroblocks 0
unfolding qp_before
qp_start info header macroblocks = refl

pub qp_step : (info : PictureInfo) (header : Header) (macroblocks : List Macroblock) (number q r : ℕ) (delta : ℤ) → q ≡ qp_before info header macroblocks number → delta ≡ (macroblock_at macroblocks number).qp_delta → r ≡ next_qp q delta
    → r ≡ qp_before info header macroblocks (suc number)
unfolding qp_before
qp_step info header macroblocks number q r delta is d e = e ∙ (ap (λ z. next_qp z delta) is ∙ ap (next_qp (qp_before info header macroblocks number)) d)

pub by_one : (info : PictureInfo) (header : Header) (macroblocks : List Macroblock) (number : ℕ) → qp_before info header macroblocks (suc number) ≡ qp_before info header macroblocks (number + 1)
by_one info header macroblocks number = let next : suc number ≡ number + 1 = omega arith in ap (qp_before info header macroblocks) next

pub columns_start : (constrained : Bool) (first width : ℕ) (macroblocks : List Macroblock) (columns : Columns) → AreColumns first width [] columns → AreColumns first width (slice_modes constrained first width macroblocks 0) columns
unfolding slice_modes
columns_start constrained first width macroblocks columns are = are
