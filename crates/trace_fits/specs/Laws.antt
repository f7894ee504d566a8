-- What follows of walks and traces.
use Rattle.std.specs.Prelude.{◌≡◌, ℕ, List, ◌++◌}
use Rattle.trace_records.specs.declared.record.Record.{Record}
use Rattle.trace_fits.specs.Files.{Breaks, IsTrace}
use Rattle.trace_fits.specs.Walks.{Follows, Goes, Walk}

-- A record leads to one place at most, and so do several.
abbrev pub RecordsLeadOneWay : Type 0
RecordsLeadOneWay = (old one other : Walk) (next : Record) → Follows old next one → Follows old next other → one ≡ other

abbrev pub WalksEndAtOnePlace : Type 0
WalksEndAtOnePlace = (old one other : Walk) (records : List Record) → Goes old records one → Goes old records other → one ≡ other

-- Where records can come one behind the other, so can those of each front.
abbrev pub FrontsGo : Type 0
FrontsGo = (old new : Walk) (front later : List Record) → Goes old (front ++ later) new → (between : Walk) × Goes old front between × Goes between later new

-- Bytes go wrong at one offset at most, and a trace's nowhere.
abbrev pub BytesBreakOnce : Type 0
BytesBreakOnce = (bytes : List ℕ) (one other : ℕ) → Breaks bytes one → Breaks bytes other → one ≡ other

abbrev pub TracesDontBreak : Type 0
TracesDontBreak = (bytes : List ℕ) (count offset : ℕ) → IsTrace bytes count → ¬ Breaks bytes offset

-- A trace has one number of records.
abbrev pub TracesHaveOneCount : Type 0
TracesHaveOneCount = (bytes : List ℕ) (one other : ℕ) → IsTrace bytes one → IsTrace bytes other → one ≡ other
