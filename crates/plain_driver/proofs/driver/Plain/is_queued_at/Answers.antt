use Rattle.std.proofs.Common.{◌∙◌, ap}
use Rattle.plain_driver.specs.Presenting.{some_holds}
use Rattle.plain_driver.proofs.Presence.{some_holds-is}
use Rattle.plain_driver.proofs.driver.Plain.is_queued_at.Goals as goal

pub returns : goal.returns
returns c = c.some_holds.ensures ∙ (ap (some_holds c.args.surface) c.deref.ensures.value ∙ some_holds-is c.args.surface c.args.self.now.objects.items)
