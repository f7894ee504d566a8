use Rattle.std.proofs.Common.{◌∙◌, ap}
use Rattle.plain_driver.specs.Keeping.{some_live_holds}
use Rattle.plain_driver.proofs.Keeps.{some_live_holds-is}
use Rattle.plain_driver.proofs.driver.Plain.is_held.Goals as goal

pub returns : goal.returns
returns c = c.some_live_holds.ensures ∙ (ap (some_live_holds c.args.place) c.deref.ensures.value ∙ some_live_holds-is c.args.place c.args.self.now.objects.items)
