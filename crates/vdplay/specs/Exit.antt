-- What the program says and ends with.
use Rattle.std.specs.Prelude.{ℕ, List, [], ◌++◌}
use Rattle.std.specs.Prelude.{codes}
use Rattle.std.specs.Fmt.{decimal}
use Rattle.vdplay.specs.declared.exit.Exit.{Exit}
use Rattle.vdplay.specs.declared.exit.Exit.TheVariants.{Done, Usage, ReadFault, BadStream, WriteFault, OutOfMemory, TooLarge}
use Rattle.vd_outside.specs.declared.sink.SinkFault.{SinkFault}
use Rattle.vd_outside.specs.declared.sink.SinkFault.TheVariants as fault

-- the exit status
abbrev pub number_of : Exit → ℕ
number_of Done = 0
number_of Usage = 2
number_of ReadFault = 4
number_of (BadStream stream offset) = 5
number_of WriteFault = 6
number_of OutOfMemory = 7
number_of (TooLarge stream) = 8

-- the line on standard error, without its end; nothing where all went well
abbrev pub line_of : Exit → List ℕ
line_of Done = []
line_of Usage = codes "vdplay: bad command line"
line_of ReadFault = codes "vdplay: a read failed"
line_of (BadStream stream offset) =
    codes "vdplay: stream " ++ (decimal stream ++ (codes ": access unit at byte " ++ (decimal offset ++ codes " is not accepted")))
line_of WriteFault = codes "vdplay: a write failed"
line_of OutOfMemory = codes "vdplay: no memory"
line_of (TooLarge stream) = codes "vdplay: stream " ++ (decimal stream ++ codes " is too large")

-- how the program ends after a fault of the sink
abbrev pub exit_of : SinkFault → Exit
exit_of fault.Failed = WriteFault
exit_of fault.OutOfMemory = OutOfMemory
