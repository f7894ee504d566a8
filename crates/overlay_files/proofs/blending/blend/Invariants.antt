use Rattle.overlay_files.specs.Blended.{IsBlended}
use Rattle.overlay_files.specs.Pixels.{pixels_of}
use Rattle.overlay_files.proofs.blending.blend.Given as goal

abbrev pub invariant-loop-row : goal.invariant-loop-row
invariant-loop-row l = IsBlended (pixels_of l.width l.height l.fn.pixels) (pixels_of l.bitmap.width l.row l.bitmap.bytes) l.x l.y (pixels_of l.width l.height l.pixels)
