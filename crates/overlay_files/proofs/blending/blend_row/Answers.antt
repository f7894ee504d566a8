use Rattle.std.proofs.Common.{◌∙◌, ap₂, arith}
use Rattle.mixer.proofs.Pixels.{four_bytes}
use Rattle.overlay_files.specs.Blended.{over}
use Rattle.overlay_files.proofs.Rows.{row_more}
use Rattle.overlay_files.proofs.blending.blend_row.Goals as goal

pub loop-n-preserved : goal.loop-n-preserved
loop-n-preserved c =
    row_more c.args.upper.now c.args.lower.now c.loop-n.lower c.copy_from_slice.new.self c.loop-n.n _ (omega arith) (omega arith) (omega arith) c.loop-n.invariant
    (four_bytes c.copy_from_slice.new.self _ _ _ _ (c.copy_from_slice.ensures.after ∙ (c.laid_over-pixel.ensures ∙ ap₂ over c.pixel.ensures c.pixel-in-loop-n.ensures)))
