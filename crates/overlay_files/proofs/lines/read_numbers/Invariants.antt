use Rattle.overlay_files.proofs.CueTexts.{ReadNumbers}
use Rattle.overlay_files.proofs.lines.read_numbers.Given as goal

abbrev pub invariant-loop-place : goal.invariant-loop-place
invariant-loop-place l = ReadNumbers l.text l.values l.place l.end
