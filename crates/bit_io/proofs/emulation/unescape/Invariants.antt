use Rattle.std.proofs.Common.{◌≡◌, ◌-◌, ◌≤◌, length}
use Rattle.bit_io.specs.Payload.{IsAllowedBefore}
use Rattle.bit_io.proofs.Allowed.{MayFollow}
use Rattle.bit_io.proofs.Kept.{kept}
use Rattle.bit_io.proofs.emulation.unescape.Given as goal

-- what stands before the start is allowed and copied, and the byte there may follow
abbrev pub invariant-loop-rbsp : goal.invariant-loop-rbsp
invariant-loop-rbsp l = (l.start ≤ length l.unit) × (l.rbsp.items ≡ kept l.unit l.start) × IsAllowedBefore l.unit l.start × MayFollow l.unit l.start

abbrev pub decreases-loop-rbsp : goal.decreases-loop-rbsp
decreases-loop-rbsp l = length l.unit - l.start
