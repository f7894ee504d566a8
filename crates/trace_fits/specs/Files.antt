-- Traces as bytes.
use Rattle.std.specs.Prelude.{◌≡◌, ℕ, List, [], ◌++◌, length}
use Rattle.std.specs.List.{AllByRecursion}
use Rattle.trace_records.specs.Ranges.{IsRecord}
use Rattle.trace_records.specs.Records.{bytes_of, bytes_of_all}
use Rattle.trace_records.specs.declared.record.Record.{Record}
use Rattle.trace_fits.specs.Walks.{Fits, Follows, Goes, IsAtRest, Walk, start}

-- The bytes are whole records, so many, that fit.
pub record IsTrace (bytes : List ℕ) (count : ℕ) : Type 0 where
  pub records : List Record
  pub each : AllByRecursion IsRecord records
  pub is : bytes ≡ bytes_of_all records
  pub fits : Fits records
  pub many : count ≡ length records

-- At this offset the bytes go wrong. Before it they are records that can come one behind the other. Behind it no record begins that can
-- come next, and where nothing is behind it, a flip is missing.
pub record Breaks (bytes : List ℕ) (offset : ℕ) : Type 0 where
  pub records : List Record
  pub rest : List ℕ
  pub walk : Walk
  pub each : AllByRecursion IsRecord records
  pub is : bytes ≡ bytes_of_all records ++ rest
  pub goes : Goes start records walk
  pub stops : (next : Record) (later : List ℕ) (new : Walk) → IsRecord next → rest ≡ bytes_of next ++ later → ¬ Follows walk next new
  pub misses : rest ≡ [] → ¬ IsAtRest walk
  pub place : offset ≡ length (bytes_of_all records)
