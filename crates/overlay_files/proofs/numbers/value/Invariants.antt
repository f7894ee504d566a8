use Rattle.clock_script.proofs.Numerals.{Read}
use Rattle.overlay_files.proofs.numbers.value.Given as goal

abbrev pub invariant-loop-byte : goal.invariant-loop-byte
invariant-loop-byte l = Read l.text l.byte-index l.number
