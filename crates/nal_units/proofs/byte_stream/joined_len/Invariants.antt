use Rattle.std.proofs.Common.{◌≡◌, ◌+◌, take, vec_len}
use Rattle.std.specs.Prelude.{sum_by}
use Rattle.nal_units.proofs.byte_stream.joined_len.Given as goal

-- The units so far were counted.
abbrev pub invariant-loop-unit : goal.invariant-loop-unit
invariant-loop-unit l = l.total ≡ sum_by (λ unit. 4 + vec_len unit) (take l.unit-index l.units.items)
