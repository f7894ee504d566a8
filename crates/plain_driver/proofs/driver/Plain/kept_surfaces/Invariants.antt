use Rattle.std.proofs.Common.{◌≡◌, ◌≤◌, take}
use Rattle.std.specs.List.{count_by, enumerate_from}
use Rattle.driver_model.specs.Kept.{is_kept}
use Rattle.plain_driver.specs.States.{objects_of, state_of}
use Rattle.plain_driver.proofs.driver.Plain.kept_surfaces.Given as goal

abbrev pub invariant-loop-place : goal.invariant-loop-place
invariant-loop-place l = (l.surfaces ≡ count_by (is_kept (state_of l.self)) (enumerate_from 0 (objects_of (take l.place l.object-items)))) × (l.surfaces ≤ l.place)
