use Rattle.std.proofs.Common.{ap}
use Rattle.driver_objects.specs.Kinds.{number_of}
use Rattle.driver_objects.proofs.device_ends.clear.Goals as goal

pub clear-requires : goal.clear-requires
clear-requires c = c.requires c.in-Queue.queue.number (ap number_of c.in-Queue.is)
