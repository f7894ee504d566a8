-- What a run leaves of shelf and sink, put together from what its parts leave.
use Rattle.std.proofs.Common.{◌≡◌, ◌≢◌, ℕ, ◌≤◌, Bool, true, false, List, Option, Result, Ok, Err, refl, sym, ap, subst, ◌∙◌, arith}
use Rattle.std.specs.Prelude.{IfErr, OnOk}
use Rattle.std.specs.Io.KnownBytes.{Keeps}
use Rattle.vd_outside.specs.Count.{raised}
use Rattle.vdplay.specs.Outside.{AreSame, IsReadAlone, Leaves, LeavesCounts, ShelfState, SinkState, StopsReading, StopsWriting}
use Rattle.vdplay.specs.Run.{IsDecided, exit_in, refusal_of}
use Rattle.vdplay.specs.declared.exit.Exit.{Exit}
use Rattle.vdplay.specs.declared.exit.Exit.TheVariants.{Done, Usage, ReadFault, BadStream, WriteFault, OutOfMemory, TooLarge}

-- ---- reading

pub none_read : (name : List ℕ) (shelf : ShelfState) → IsReadAlone name shelf shelf
none_read name shelf = record { kept = refl; never_lower = λ other. omega arith; no_other = λ other apart. refl }

pub read_more : (name : List ℕ) (a b c : ShelfState) → IsReadAlone name a b → IsReadAlone name b c → IsReadAlone name a c
read_more name a b c first second = record {
  kept = second.kept ∙ first.kept;
  never_lower = λ other. (let x = first.never_lower other in let y = second.never_lower other in omega (arith, x, y));
  no_other = λ other apart. second.no_other other apart ∙ first.no_other other apart;
}

pub same_more : (a b c : List ℕ → ℕ) → AreSame a b → AreSame b c → AreSame a c
same_more a b c first second = λ name. second name ∙ first name

-- Reading was stopped, and no fault was counted before.
pub stops_later : (exit : Exit) (name : List ℕ) (a b c : List ℕ → ℕ) → AreSame a b → StopsReading exit name b c → StopsReading exit name a c
stops_later Done name a b c same stops = stops
stops_later Usage name a b c same stops = stops
stops_later ReadFault name a b c same stops = stops ∙ ap raised (same name)
stops_later (BadStream stream offset) name a b c same stops = stops
stops_later WriteFault name a b c same stops = stops
stops_later OutOfMemory name a b c same stops = same_more a b c same stops
stops_later (TooLarge stream) name a b c same stops = stops

-- ---- counts, by how it ended

counts_reading : (exit : Exit) (name : List ℕ) (reads reads' reads'' : List ℕ → ℕ) (writes writes' : ℕ) → AreSame reads reads' → writes' ≡ writes → StopsReading exit name reads' reads'' → LeavesCounts exit name reads reads'' writes writes'
counts_reading Done name reads reads' reads'' writes writes' same none stops = absurd stops
counts_reading Usage name reads reads' reads'' writes writes' same none stops = absurd stops
counts_reading ReadFault name reads reads' reads'' writes writes' same none stops = (stops ∙ ap raised (same name), none)
counts_reading (BadStream stream offset) name reads reads' reads'' writes writes' same none stops = absurd stops
counts_reading WriteFault name reads reads' reads'' writes writes' same none stops = absurd stops
counts_reading OutOfMemory name reads reads' reads'' writes writes' same none stops = (same_more reads reads' reads'' same stops, none)
counts_reading (TooLarge stream) name reads reads' reads'' writes writes' same none stops = absurd stops

counts_writing : (exit : Exit) (name : List ℕ) (reads reads' : List ℕ → ℕ) (sink sink' sink'' : SinkState) → AreSame reads reads' → sink'.faults ≡ sink.faults → StopsWriting exit sink' sink''
    → LeavesCounts exit name reads reads' sink.faults sink''.faults
counts_writing Done name reads reads' sink sink' sink'' same none stops = absurd stops
counts_writing Usage name reads reads' sink sink' sink'' same none stops = absurd stops
counts_writing ReadFault name reads reads' sink sink' sink'' same none stops = absurd stops
counts_writing (BadStream stream offset) name reads reads' sink sink' sink'' same none stops = absurd stops
counts_writing WriteFault name reads reads' sink sink' sink'' same none stops = (same, stops.one ∙ ap raised none)
counts_writing OutOfMemory name reads reads' sink sink' sink'' same none stops = (same, stops ∙ none)
counts_writing (TooLarge stream) name reads reads' sink sink' sink'' same none stops = absurd stops

counts_decided : (exit : Exit) (name : List ℕ) (reads reads' : List ℕ → ℕ) (writes writes' : ℕ) → IsDecided exit → AreSame reads reads' → writes' ≡ writes → LeavesCounts exit name reads reads' writes writes'
counts_decided Done name reads reads' writes writes' is same none = (same, none)
counts_decided Usage name reads reads' writes writes' is same none = absurd is
counts_decided ReadFault name reads reads' writes writes' is same none = absurd is
counts_decided (BadStream stream offset) name reads reads' writes writes' is same none = (same, none)
counts_decided WriteFault name reads reads' writes writes' is same none = absurd is
counts_decided OutOfMemory name reads reads' writes writes' is same none = absurd is
counts_decided (TooLarge stream) name reads reads' writes writes' is same none = (same, none)

counts_later : (exit : Exit) (name : List ℕ) (reads reads' reads'' : List ℕ → ℕ) (writes writes' : ℕ) → AreSame reads reads' → LeavesCounts exit name reads' reads'' writes writes' → LeavesCounts exit name reads reads'' writes writes'
counts_later Done name reads reads' reads'' writes writes' same counts = (same_more reads reads' reads'' same counts.0, counts.1)
counts_later Usage name reads reads' reads'' writes writes' same counts = (same_more reads reads' reads'' same counts.0, counts.1)
counts_later ReadFault name reads reads' reads'' writes writes' same counts = (counts.0 ∙ ap raised (same name), counts.1)
counts_later (BadStream stream offset) name reads reads' reads'' writes writes' same counts = (same_more reads reads' reads'' same counts.0, counts.1)
counts_later WriteFault name reads reads' reads'' writes writes' same counts = (same_more reads reads' reads'' same counts.0, counts.1)
counts_later OutOfMemory name reads reads' reads'' writes writes' same counts = (same_more reads reads' reads'' same counts.0, counts.1)
counts_later (TooLarge stream) name reads reads' reads'' writes writes' same counts = (same_more reads reads' reads'' same counts.0, counts.1)

lower_writing : (exit : Exit) (sink sink' : SinkState) → StopsWriting exit sink sink' → sink.faults ≤ sink'.faults
lower_writing Done sink sink' stops = absurd stops
lower_writing Usage sink sink' stops = absurd stops
lower_writing ReadFault sink sink' stops = absurd stops
lower_writing (BadStream stream offset) sink sink' stops = absurd stops
lower_writing WriteFault sink sink' stops = stops.never_lower
lower_writing OutOfMemory sink sink' stops = omega (arith, stops)
lower_writing (TooLarge stream) sink sink' stops = absurd stops

-- ---- a run

-- Reading stopped it.
pub left_reading : (exit : Exit) (name : List ℕ) (a b c : ShelfState) (k l : SinkState) → IsReadAlone name a b → AreSame a.faults b.faults → l.faults ≡ k.faults → IsReadAlone name b c → StopsReading exit name b.faults c.faults → Leaves exit name a c k l
left_reading exit name a b c k l read same none more stops = record {
  read = read_more name a b c read more;
  never_lower = omega (arith, none);
  counts = counts_reading exit name a.faults b.faults c.faults k.faults l.faults same none stops;
  nothing_behind = λ is. absurd (subst (λ (e : Exit). StopsReading e name b.faults c.faults) is stops);
}

-- Writing stopped it.
pub left_writing : (exit : Exit) (name : List ℕ) (a b : ShelfState) (k l m : SinkState) → IsReadAlone name a b → AreSame a.faults b.faults → l.faults ≡ k.faults → StopsWriting exit l m → Leaves exit name a b k m
left_writing exit name a b k l m read same none stops = record {
  read = read;
  never_lower = (let up = lower_writing exit l m stops in omega (arith, none, up));
  counts = counts_writing exit name a.faults b.faults k l m same none stops;
  nothing_behind = λ is. (let s : StopsWriting WriteFault l m = subst (λ (e : Exit). StopsWriting e l m) is stops in s.nothing_behind);
}

-- The file decided.
pub left_decided : (exit : Exit) (name : List ℕ) (a b : ShelfState) (k m : SinkState) → IsDecided exit → IsReadAlone name a b → AreSame a.faults b.faults → m.faults ≡ k.faults → Leaves exit name a b k m
left_decided exit name a b k m is read same none = record {
  read = read;
  never_lower = omega (arith, none);
  counts = counts_decided exit name a.faults b.faults k.faults m.faults is same none;
  nothing_behind = λ e. absurd (subst IsDecided e is);
}

-- What was written last decided, or stopped it.
pub left_by : (result : Result (Unit {0}) Exit) (name : List ℕ) (a b : ShelfState) (k l m : SinkState) → IsReadAlone name a b → AreSame a.faults b.faults → l.faults ≡ k.faults → OnOk result (m.faults ≡ l.faults)
    → IfErr result (λ exit. StopsWriting exit l m) → Leaves (exit_in result) name a b k m
left_by (Ok value) name a b k l m read same none more stops = left_decided Done name a b k m tt read same (more ∙ none)
left_by (Err exit) name a b k l m read same none more stops = left_writing exit name a b k l m read same none stops

-- It went on from there.
pub left_later : (exit : Exit) (name : List ℕ) (a b c : ShelfState) (k m : SinkState) → IsReadAlone name a b → AreSame a.faults b.faults → Leaves exit name b c k m → Leaves exit name a c k m
left_later exit name a b c k m read same left = record {
  read = read_more name a b c read left.read;
  never_lower = left.never_lower;
  counts = counts_later exit name a.faults b.faults c.faults k.faults m.faults same left.counts;
  nothing_behind = left.nothing_behind;
}
