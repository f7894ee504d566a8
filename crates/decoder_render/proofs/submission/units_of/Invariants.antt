use Rattle.std.proofs.Common.{◌-◌, ◌≤◌, length, take, None}
use Rattle.nal_units.specs.Finder.{StandsFor}
use Rattle.nal_units.specs.Settled.{Settles}
use Rattle.decoder_render.proofs.submission.units_of.Given as goal

abbrev pub invariant-loop-place : goal.invariant-loop-place
invariant-loop-place l =
    record {
      within : l.place ≤ length l.text;
      stands : StandsFor l.finder (take l.place l.text);
      settles : Settles (take l.place l.text) l.units.items None;
    }

abbrev pub decreases-loop-place : goal.decreases-loop-place
decreases-loop-place l = length l.text - l.place
