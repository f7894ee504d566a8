use Rattle.std.proofs.Common.{◌≡◌, ◌≤◌, ◌++◌, drop}
use Rattle.bit_io.specs.Escaped.{escaped}
use Rattle.bit_io.proofs.EscapeLemmas.{escaped_from}
use Rattle.bit_io.proofs.escaping.escape.Given as goal

-- what is written, and what the bytes that are left come to behind so many zero bytes
abbrev pub invariant-loop-byte : goal.invariant-loop-byte
invariant-loop-byte l = (l.zeros ≤ 2) × (l.unit.items ++ escaped_from l.zeros (drop l.byte-index l.rbsp) ≡ escaped l.rbsp)
