use Rattle.std.proofs.Common.{◌∙◌}
use Rattle.driver_model.specs.Objects.{as_queue}
use Rattle.driver_model.specs.declared.numbers.TheConstants.{PRESENTATION_QUEUE}
use Rattle.plain_driver.specs.States.{state_of}
use Rattle.plain_driver.proofs.Finding.{used_is}
use Rattle.plain_driver.proofs.KindNumbers.{queue_kind}
use Rattle.plain_driver.proofs.driver.Plain.used_queue.Goals as goal

pub returns : goal.returns
returns c = c.used.ensures ∙ used_is as_queue PRESENTATION_QUEUE queue_kind c.args.name (state_of c.args.self.now) c.args.arg
