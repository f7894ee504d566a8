use Rattle.output_order.specs.OutputOrder.{History}
use Rattle.output_order.specs.Waiting.{StandsFor}
use Rattle.access_units.specs.Stands.{IsLater}
use Rattle.access_units.proofs.pictures.pop_settled.Given as goal

abbrev pub invariant-loop : goal.invariant-loop
invariant-loop l = (h : History) → StandsFor l.initial.waiting h → (after : History) × StandsFor l.waiting after × IsLater h after

abbrev pub decreases-loop : goal.decreases-loop
decreases-loop l = l.waiting.length
