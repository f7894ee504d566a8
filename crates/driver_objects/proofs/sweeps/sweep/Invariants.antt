use Rattle.std.proofs.Common.{◌≡◌, ℕ, ◌<◌, ◌-◌, true, List, filter, length, slice_get, Some}
use Rattle.driver_objects.specs.Kept.{IsGiven, kept_of, made_of}
use Rattle.driver_objects.specs.Swept.{AreWithin, is_wanted}
use Rattle.driver_objects.specs.declared.object.Object.{Object}
use Rattle.driver_objects.proofs.sweeps.sweep.Given as goal

abbrev pub invariant-loop-index : goal.invariant-loop-index
invariant-loop-index l =
    (filter (is_wanted l.queues) (kept_of l.objects) ≡ filter (is_wanted l.queues) (kept_of l.fn.objects))
    × ((i : ℕ) (object : Object) → i < l.index → slice_get (kept_of l.objects) i ≡ Some object → is_wanted l.queues object ≡ true)
    × AreWithin (kept_of l.objects)
    × (made_of l.objects ≡ made_of l.fn.objects)
    × ((names : List ℕ) → IsGiven l.fn.objects names → IsGiven l.objects names)

abbrev pub decreases-loop-index : goal.decreases-loop-index
decreases-loop-index l = length (kept_of l.objects) - l.index
