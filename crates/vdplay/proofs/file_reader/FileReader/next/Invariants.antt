use Rattle.std.proofs.Common.{◌≡◌, ◌+◌, ◌-◌, cond}
use Rattle.vd_outside.specs.Shelf.{told}
use Rattle.accepted_pictures.specs.Streams.{Stream}
use Rattle.vdplay.specs.Outside.{AreSame, IsReadAlone, shelf_state}
use Rattle.vdplay.specs.Reading.{Reads, ReadsOn}
use Rattle.vdplay.proofs.file_reader.FileReader.next.Given as goal

-- more was read
abbrev pub invariant-loop-self : goal.invariant-loop-self
invariant-loop-self g l =
    (g.S.Shelf.content l.shelf ≡ g.S.Shelf.content l.fn.shelf)
    × (g.S.Shelf.faults l.shelf l.name ≡ g.S.Shelf.faults l.fn.shelf l.name)
    × ((stream : Stream) → Reads l.fn.self (told (g.S.Shelf.content l.fn.shelf) l.name) stream → ReadsOn l.self (told (g.S.Shelf.content l.fn.shelf) l.name) stream.decoded)
    × AreSame (g.S.Shelf.faults l.fn.shelf) (g.S.Shelf.faults l.shelf)
    × IsReadAlone l.name (shelf_state (g.S.Shelf.content l.fn.shelf) (g.S.Shelf.faults l.fn.shelf) (g.S.Shelf.reads l.fn.shelf)) (shelf_state (g.S.Shelf.content l.shelf) (g.S.Shelf.faults l.shelf) (g.S.Shelf.reads l.shelf))

abbrev pub decreases-loop-self : goal.decreases-loop-self
decreases-loop-self g l = 1073741824 - l.self.at + cond l.self.ended 0 1
