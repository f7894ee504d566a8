use Rattle.std.proofs.Common.{ap}
use Rattle.driver_objects.specs.Kinds.{holder_of}
use Rattle.driver_objects.proofs.sweeps.is_wanted.Goals as goal

pub queued-requires : goal.queued-requires
queued-requires c = c.requires c.in-Output.surface.holder (ap holder_of c.in-Output.is)

pub shown-requires : goal.shown-requires
shown-requires c = c.requires c.in-Output.surface.holder (ap holder_of c.in-Output.is)
