use Rattle.std.proofs.Common.{take}
use Rattle.nal_units.specs.Finder.{StandsFor}
use Rattle.codec_rows.proofs.units.pushed.Given as goal

abbrev pub invariant-loop-byte : goal.invariant-loop-byte
invariant-loop-byte l = StandsFor l.finder (take l.byte-index l.text)
