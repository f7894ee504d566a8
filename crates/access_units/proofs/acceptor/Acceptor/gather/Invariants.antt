use Rattle.access_units.specs.Standing.{KeepsRest, still_to_do}
use Rattle.access_units.proofs.GatherLemmas.{GoesFurther}
use Rattle.access_units.proofs.acceptor.Acceptor.gather.Given as goal

abbrev pub invariant-loop-self : goal.invariant-loop-self
invariant-loop-self l = record { further : GoesFurther l.initial.self l.self; rest : KeepsRest l.initial.self l.self }

abbrev pub decreases-loop-self : goal.decreases-loop-self
decreases-loop-self l = still_to_do l.self
