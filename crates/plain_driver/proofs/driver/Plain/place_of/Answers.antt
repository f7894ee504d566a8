use Rattle.std.proofs.Common.{◌∙◌, ap}
use Rattle.std.specs.List.{position}
use Rattle.plain_driver.specs.Looks.{is_called}
use Rattle.plain_driver.specs.States.{object_of}
use Rattle.plain_driver.proofs.Finding.{position-map}
use Rattle.plain_driver.proofs.driver.Plain.place_of.Goals as goal

pub returns : goal.returns
returns c =
    c.place_in.ensures
    ∙ (ap (λ xs. position (λ o. is_called c.args.number c.args.name (object_of o)) xs) c.deref.ensures.value
    ∙ position-map object_of (is_called c.args.number c.args.name) c.args.self.now.objects.items)
