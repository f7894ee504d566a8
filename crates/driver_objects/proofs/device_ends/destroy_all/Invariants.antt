use Rattle.std.proofs.Common.{◌≡◌, ℕ, List}
use Rattle.driver_objects.specs.Kept.{IsGiven, kept_of, made_of}
use Rattle.driver_objects.proofs.Ending.{Ends}
use Rattle.driver_objects.proofs.device_ends.destroy_all.Given as goal

abbrev pub invariant-loop-index : goal.invariant-loop-index
invariant-loop-index l =
    Ends l.device (kept_of l.fn.objects) l.fn.queues l.index (kept_of l.objects) l.queues
    × (made_of l.objects ≡ made_of l.fn.objects)
    × ((names : List ℕ) → IsGiven l.fn.objects names → IsGiven l.objects names)
