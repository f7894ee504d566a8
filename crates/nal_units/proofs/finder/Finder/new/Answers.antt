use Rattle.std.proofs.Common.{refl, []}
use Rattle.nal_units.specs.declared.finder.Phase.TheVariants as phase
use Rattle.nal_units.proofs.Advancing.{begins}
use Rattle.nal_units.proofs.Settling.{phase_settles}
use Rattle.nal_units.proofs.finder.Finder.new.Goals as goal

pub returns-clause-stands : goal.returns-clause-stands
returns-clause-stands c = ([], record { counted = refl; phase = begins })

pub returns-clause-settles : goal.returns-clause-settles
returns-clause-settles c = phase_settles (phase.Outside 0) [] [] begins
