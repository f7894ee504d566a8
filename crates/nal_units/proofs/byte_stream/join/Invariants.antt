use Rattle.std.proofs.Common.{◌≡◌, ◌++◌, take}
use Rattle.std.specs.Prelude.{flat_map}
use Rattle.nal_units.specs.ByteStream.{start_code}
use Rattle.nal_units.proofs.byte_stream.join.Given as goal

-- The units so far were written.
abbrev pub invariant-loop-unit : goal.invariant-loop-unit
invariant-loop-unit l = l.text.items ≡ flat_map (λ unit. start_code ++ unit.items) (take l.unit-index l.units.items)
