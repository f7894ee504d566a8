use Rattle.driver_model.specs.Objects as model
use Rattle.driver_model.specs.declared.numbers.TheConstants as number
use Rattle.driver_core.proofs.Handles.{found_err, found_ok}
use Rattle.driver_core.proofs.ModelKinds.{queue_is, queue_kind, queue_other}
use Rattle.driver_core.proofs.driver.Core.queue.Goals as goal

pub returns-in-Ok-clause-finds : goal.returns-in-Ok-clause-finds
returns-in-Ok-clause-finds c =
    found_ok model.as_queue (λ of. model.QueueObject of) number.PRESENTATION_QUEUE queue_kind queue_other queue_is c.args.self.now c.args.arg c.args.name c.in-Ok.index _ c.in-Ok.ensures (rw c.queue_in.ensures at c.content.ensures)

pub returns-in-Err-clause-refuses : goal.returns-in-Err-clause-refuses
returns-in-Err-clause-refuses c = found_err model.as_queue (λ of. model.QueueObject of) number.PRESENTATION_QUEUE queue_kind queue_other queue_is c.args.self.now c.args.arg c.args.name c.in-Err.refusal c.in-Err.ensures
