use Rattle.driver_model.proofs.Leading as leading
use Rattle.driver_model.proofs.LiveQueues as queues
use Rattle.driver_model.proofs.laws.idle_surfaces_are_not_named.Goals as goal

pub returns : goal.returns
returns c = record { unnamed = leading.idle_surfaces_are_not_named; live = queues.live_queues_decide }
