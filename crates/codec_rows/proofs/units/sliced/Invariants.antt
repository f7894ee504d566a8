use Rattle.std.proofs.Common.{◌-◌, ◌≤◌, length, take}
use Rattle.nal_units.specs.Finder.{StandsFor}
use Rattle.codec_rows.proofs.units.sliced.Given as goal

abbrev pub invariant-loop-place : goal.invariant-loop-place
invariant-loop-place l = record { within : l.place ≤ length l.text; stands : StandsFor l.finder (take l.place l.text) }

abbrev pub decreases-loop-place : goal.decreases-loop-place
decreases-loop-place l = length l.text - l.place
