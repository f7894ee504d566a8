use Rattle.std.proofs.Common.{◌≡◌, length}
use Rattle.plain_driver.specs.States.{state_of}
use Rattle.plain_driver.proofs.RenderLooks.{AreLookedAt}
use Rattle.plain_driver.proofs.driver.Plain.references.Given as goal

abbrev pub invariant-loop-place : goal.invariant-loop-place
invariant-loop-place l = AreLookedAt (state_of l.self) l.device l.entries l.place l.found × (length l.found ≡ 16)
