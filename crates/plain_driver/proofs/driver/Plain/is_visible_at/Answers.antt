use Rattle.std.proofs.Common.{◌∙◌, ap}
use Rattle.plain_driver.specs.Presenting.{some_shows}
use Rattle.plain_driver.proofs.Presence.{some_shows-is}
use Rattle.plain_driver.proofs.driver.Plain.is_visible_at.Goals as goal

pub returns : goal.returns
returns c = c.some_shows.ensures ∙ (ap (some_shows c.args.surface) c.deref.ensures.value ∙ some_shows-is c.args.surface c.args.self.now.objects.items)
