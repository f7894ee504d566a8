-- What a shelf and a sink in memory hold, and which of their calls fail.
use Rattle.std.specs.Prelude.{ℕ, ◌+◌, ◌-◌, ◌^◌, min, List, take}
use Rattle.std.specs.declared.option.Option.{Option}
use Rattle.std.specs.Option.{option_map, option_map_or}
use Rattle.std.specs.BTreeMap.{get_by_text}
use Rattle.vd_outside.specs.declared.mem_shelf.MemShelf.{MemShelf}
use Rattle.vd_outside.specs.declared.mem_sink.MemSink.{MemSink}

-- the bytes of the file of that name, where it is held
abbrev pub file_of : MemShelf → List ℕ → Option (List ℕ)
file_of shelf name = option_map (λ held. held.bytes.items) (get_by_text shelf.files name)

-- how many faults there were at a name: those of every name, and beside them those of looking for it while it wasn't held
abbrev pub faults_at : MemShelf → List ℕ → ℕ
faults_at shelf name = option_map_or (λ held. min (shelf.failures + held.earlier) (2 ^ 64 - 1)) (get_by_text shelf.files name) shelf.misses

-- the numbers, from 0, of the reads that fail
abbrev pub failing_reads : MemShelf → List ℕ
failing_reads shelf = shelf.failing.items

-- the number of the next read
abbrev pub next_read : MemShelf → ℕ
next_read shelf = shelf.reads

-- all bytes written so far
abbrev pub written_to : MemSink → List ℕ
written_to sink = sink.written.items

-- the numbers, from 0, of the writes that fail
abbrev pub failing_writes : MemSink → List ℕ
failing_writes sink = sink.failing.items

-- the number of the next write
abbrev pub next_write : MemSink → ℕ
next_write sink = sink.writes

-- how many writes failed
abbrev pub failed_writes : MemSink → ℕ
failed_writes sink = sink.failures

-- what had been written when a write failed last; nothing where none failed
abbrev pub written_then : MemSink → List ℕ
written_then sink = take sink.length_then sink.written.items
