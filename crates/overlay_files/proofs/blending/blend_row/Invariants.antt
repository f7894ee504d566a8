use Rattle.overlay_files.proofs.Rows.{RowSoFar}
use Rattle.overlay_files.proofs.blending.blend_row.Given as goal

abbrev pub invariant-loop-n : goal.invariant-loop-n
invariant-loop-n l = RowSoFar l.upper l.fn.lower l.n l.lower
