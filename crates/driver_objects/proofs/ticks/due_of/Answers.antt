use Rattle.std.proofs.Common.{ap}
use Rattle.driver_objects.specs.Kinds.{number_of}
use Rattle.driver_objects.proofs.ticks.due_of.Goals as goal

pub due-requires : goal.due-requires
due-requires c = c.requires c.in-Queue.of.number (ap number_of c.in-Queue.is)
