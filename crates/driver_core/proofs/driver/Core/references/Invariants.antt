use Rattle.std.proofs.Common.{◌≡◌, length}
use Rattle.driver_core.specs.Rendered.{SeesEntries}
use Rattle.driver_core.proofs.driver.Core.references.Given as goal

abbrev pub invariant-loop-place : goal.invariant-loop-place
invariant-loop-place l = record { count : length l.found ≡ 16; sees : SeesEntries l.self l.device l.entries l.place l.found }
