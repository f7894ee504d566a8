use Rattle.std.proofs.Common.{◌∙◌, ap}
use Rattle.plain_driver.specs.Keeping.{some_live_shows}
use Rattle.plain_driver.proofs.Keeps.{some_live_shows-is}
use Rattle.plain_driver.proofs.driver.Plain.is_on_display.Goals as goal

pub returns : goal.returns
returns c = c.some_live_shows.ensures ∙ (ap (some_live_shows c.args.place) c.deref.ensures.value ∙ some_live_shows-is c.args.place c.args.self.now.objects.items)
