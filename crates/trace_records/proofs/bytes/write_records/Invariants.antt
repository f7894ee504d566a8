use Rattle.std.proofs.Common.{◌≡◌, take}
use Rattle.trace_records.specs.Records.{bytes_of_all}
use Rattle.trace_records.proofs.bytes.write_records.Given as goal

abbrev pub invariant-loop-record : goal.invariant-loop-record
invariant-loop-record l = l.bytes.items ≡ bytes_of_all (take l.record-index l.records)
