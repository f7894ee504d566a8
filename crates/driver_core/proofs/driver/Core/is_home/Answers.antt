use Rattle.std.proofs.Common.{not, ap, ◌∙◌}
use Rattle.driver_model.specs.States.{is_out}
use Rattle.driver_objects.specs.Kept.{kept_of}
use Rattle.driver_objects.specs.declared.object.Object.{Object}
use Rattle.driver_objects.proofs.Lists.{one_kept}
use Rattle.driver_core.proofs.driver.Core.is_home.Goals as goal

pub returns : goal.returns
returns c d object stands there =
    let same = one_kept (kept_of c.args.self.now.objects) c.args.index c.object.result.now object c.object.ensures there in
    ap not (c.is_out.ensures d stands ∙ ap (λ (o : Object). is_out d o.place) same)
