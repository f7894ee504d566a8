-- What becomes of the shelf and the sink in a run: it reads one file, writes, and meets one fault at most, which ends it.
use Rattle.std.specs.Prelude.{◌≡◌, ◌≢◌, ℕ, ◌≤◌, List, Option}
use Rattle.std.specs.Io.KnownBytes.{Keeps}
use Rattle.vd_outside.specs.Count.{raised}
use Rattle.vd_outside.specs.Shelf.{Files}
use Rattle.vdplay.specs.declared.exit.Exit.{Exit}
use Rattle.vdplay.specs.declared.exit.Exit.TheVariants.{ReadFault, WriteFault, OutOfMemory}

-- ---- counts

-- each name's count of faults is as it was
abbrev pub AreSame : (List ℕ → ℕ) → (List ℕ → ℕ) → Type 0
AreSame before now = (name : List ℕ) → now name ≡ before name

-- How a run on a file left the counts of faults, those of all names and the sink's. A fault ends a run where it is met: so it is
-- counted once, at the file that was read or at the sink, and none is counted on the way to another end.
abbrev pub LeavesCounts : Exit → List ℕ → (List ℕ → ℕ) → (List ℕ → ℕ) → ℕ → ℕ → Type 0
LeavesCounts ReadFault name reads reads' writes writes' = (reads' name ≡ raised (reads name)) × (writes' ≡ writes)
LeavesCounts WriteFault name reads reads' writes writes' = AreSame reads reads' × (writes' ≡ raised writes)
LeavesCounts exit name reads reads' writes writes' = AreSame reads reads' × (writes' ≡ writes)

-- ---- reading

-- what is told of a shelf at a moment
pub record ShelfState : Type 0 where
  pub content : Option Files
  pub faults : List ℕ → ℕ
  pub reads : List ℕ → ℕ

abbrev pub shelf_state : Option Files → (List ℕ → ℕ) → (List ℕ → ℕ) → ShelfState
shelf_state content faults reads = record { content = content; faults = faults; reads = reads }

-- No name but this one was read, which changes no file and lowers no count.
pub record IsReadAlone (name : List ℕ) (old new : ShelfState) : Type 0 where
  pub kept : new.content ≡ old.content
  pub never_lower : (other : List ℕ) → old.faults other ≤ new.faults other
  pub no_other : (other : List ℕ) → other ≢ name → new.reads other ≡ old.reads other

-- Reading stopped here: at a fault, counted once at the name that was read, or for want of memory.
abbrev pub StopsReading : Exit → List ℕ → (List ℕ → ℕ) → (List ℕ → ℕ) → Type 0
StopsReading ReadFault name before now = now name ≡ raised (before name)
StopsReading OutOfMemory name before now = AreSame before now
StopsReading exit name before now = ⊥

-- ---- writing

-- what is told of a sink at a moment
pub record SinkState : Type 0 where
  pub written : Option (List ℕ)
  pub faults : ℕ
  pub written_at_fault : Option (List ℕ)

abbrev pub sink_state : Option (List ℕ) → ℕ → Option (List ℕ) → SinkState
sink_state written faults written_at_fault = record { written = written; faults = faults; written_at_fault = written_at_fault }

-- The sink counted one fault more, and took nothing behind it.
pub record EndsAtFault (old new : SinkState) : Type 0 where
  pub one : new.faults ≡ raised old.faults
  pub never_lower : old.faults ≤ new.faults
  pub nothing_behind : Keeps new.written_at_fault new.written

-- Writing stopped here: at a fault, or for want of memory.
abbrev pub StopsWriting : Exit → SinkState → SinkState → Type 0
StopsWriting WriteFault old new = EndsAtFault old new
StopsWriting OutOfMemory old new = new.faults ≡ old.faults
StopsWriting exit old new = ⊥

-- ---- a run

-- What a run on the file of this name left of shelf and sink.
pub record Leaves (exit : Exit) (name : List ℕ) (shelf shelf' : ShelfState) (sink sink' : SinkState) : Type 0 where
  pub read : IsReadAlone name shelf shelf'
  pub never_lower : sink.faults ≤ sink'.faults
  pub counts : LeavesCounts exit name shelf.faults shelf'.faults sink.faults sink'.faults
  pub nothing_behind : exit ≡ WriteFault → Keeps sink'.written_at_fault sink'.written
