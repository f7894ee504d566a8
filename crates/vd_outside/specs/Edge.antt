-- The edge to real files and streams: all that is told of it is a count of faults.
use Rattle.std.specs.Prelude.{ℕ}
use Rattle.vd_outside.specs.declared.files.FileShelf.{FileShelf}
use Rattle.vd_outside.specs.declared.stream.StreamSink.{StreamSink}

-- how many reads failed
abbrev pub failed_reads : {R : Type 0} → FileShelf R → ℕ
failed_reads shelf = shelf.failures

-- how many writes failed
abbrev pub failed_writes : {W : Type 0} → StreamSink W → ℕ
failed_writes sink = sink.failures
