-- What is said of traces.
use Rattle.std.specs.Prelude.{◌≡◌, ℕ, List, [], ◌∷◌, ◌++◌, length}
use Rattle.driver_model.specs.declared.items.Item.{Item}
use Rattle.driver_model.specs.declared.items.Item.TheVariants.{Called, Ended}
use Rattle.trace_records.specs.Ranges.{IsRecord}
use Rattle.trace_records.specs.Records.{bytes_of}
use Rattle.trace_records.specs.Traces.{records_of, trace}
use Rattle.trace_records.specs.declared.record.Record.{Record}

-- what an item at a place adds to the trace
abbrev pub added : ℕ → Item → List Record
added place (Called entry) = records_of place entry.call entry.reply
added place (Ended mark) = []

abbrev pub TracesGoOn : Type 0
TracesGoOn = (history : List Item) (item : Item) → trace (history ++ item ∷ []) ≡ trace history ++ added (length history) item

-- Where bytes begin with a record, they begin with no other, and each has 48.
abbrev pub RecordsHaveTheirBytes : Type 0
RecordsHaveTheirBytes =
    (one other : Record) (later more : List ℕ) → IsRecord one → IsRecord other → bytes_of one ++ later ≡ bytes_of other ++ more → (one ≡ other) × (later ≡ more)

abbrev pub RecordsAreLong : Type 0
RecordsAreLong = (one : Record) → length (bytes_of one) ≡ 48
