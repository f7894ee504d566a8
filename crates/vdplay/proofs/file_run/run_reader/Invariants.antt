use Rattle.std.proofs.Common.{◌≡◌}
use Rattle.vd_outside.specs.Shelf.{told}
use Rattle.vdplay.specs.Outside.{AreSame, IsReadAlone, shelf_state}
use Rattle.vdplay.specs.Reports.{command_of}
use Rattle.vdplay.proofs.RunLemmas.{IsUnderway}
use Rattle.vdplay.proofs.file_run.run_reader.Given as goal

abbrev pub invariant-loop-given : goal.invariant-loop-given
invariant-loop-given g l =
    (g.S.Shelf.content l.shelf ≡ g.S.Shelf.content l.fn.shelf)
    × (g.S.Shelf.faults l.shelf l.name ≡ g.S.Shelf.faults l.fn.shelf l.name)
    × (g.K.Sink.faults l.sink ≡ g.K.Sink.faults l.fn.sink)
    × (command_of l.report ≡ command_of l.fn.report)
    × IsUnderway (told (g.S.Shelf.content l.fn.shelf) l.name) l._given l.reader l.report (g.K.Sink.written l.fn.sink) (g.K.Sink.written l.sink)
    × AreSame (g.S.Shelf.faults l.fn.shelf) (g.S.Shelf.faults l.shelf)
    × IsReadAlone l.name (shelf_state (g.S.Shelf.content l.fn.shelf) (g.S.Shelf.faults l.fn.shelf) (g.S.Shelf.reads l.fn.shelf)) (shelf_state (g.S.Shelf.content l.shelf) (g.S.Shelf.faults l.shelf) (g.S.Shelf.reads l.shelf))
