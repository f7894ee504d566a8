use Rattle.std.proofs.Common.{◌≡◌, ℕ, List, drop}
use Rattle.driver_objects.specs.Kept.{IsGiven, kept_of, made_of}
use Rattle.driver_objects.specs.Ticks.{all_noted, all_ticked}
use Rattle.driver_objects.proofs.ticks.show_all.Given as goal

abbrev pub invariant-loop-due : goal.invariant-loop-due
invariant-loop-due l =
    (all_noted l.time (drop l.due-index l.dues) (kept_of l.objects) ≡ all_noted l.time l.dues (kept_of l.fn.objects))
    × (made_of l.objects ≡ made_of l.fn.objects)
    × ((names : List ℕ) → IsGiven l.fn.objects names → IsGiven l.objects names)
    × (all_ticked l.time (drop l.due-index l.dues) l.queues ≡ all_ticked l.time l.dues l.fn.queues)
