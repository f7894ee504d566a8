use Rattle.std.proofs.Common.{◌≡◌, ℕ, List, length, slice_get, Some}
use Rattle.driver_objects.specs.Alike.{AreAlike}
use Rattle.driver_objects.specs.Flips.{IsFlip}
use Rattle.driver_objects.specs.Kept.{IsGiven, kept_of, made_of}
use Rattle.driver_objects.specs.declared.flips.Flip.{Flip}
use Rattle.driver_objects.specs.declared.ticks.Due.{Due}
use Rattle.driver_objects.proofs.flips.flips_to.Given as goal

abbrev pub invariant-loop-due : goal.invariant-loop-due
invariant-loop-due l =
    AreAlike (kept_of l.objects) (kept_of l.fn.objects)
    × (made_of l.objects ≡ made_of l.fn.objects)
    × ((names : List ℕ) → IsGiven l.fn.objects names → IsGiven l.objects names)
    × (length l.list.items ≡ l.due-index)
    × ((i : ℕ) (due : Due) (flip : Flip) → slice_get l.dues i ≡ Some due → slice_get l.list.items i ≡ Some flip → IsFlip (kept_of l.fn.objects) l.time due flip)
