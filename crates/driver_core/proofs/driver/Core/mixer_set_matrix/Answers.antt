use Rattle.std.proofs.Common.{ap, refl, sym, inr, ◌∙◌, arith}
use Rattle.driver_model.specs.Objects as model
use Rattle.driver_model.specs.States.{with_content}
use Rattle.driver_objects.specs.Kinds.{kind_number}
use Rattle.driver_core.proofs.Fitting.{mixer_fits}
use Rattle.driver_core.proofs.Steps.{finding, same_queues}
use Rattle.driver_core.proofs.driver.Core.mixer_set_matrix.Goals as goal

pub write-requires : goal.write-requires
write-requires c =
    let has = c.mixer_at.ensures in
    let size = c.args.self.now.sound.mixers c.in-Ok.index has.object c.mixer_at.result has.there has.has in
    (_, has, record { kind = refl; device = refl; holder = refl; number = refl }, mixer_fits _ size)

pub returns-in-Ok : goal.returns-in-Ok
returns-in-Ok c d caller stands =
    let found = c.in-Ok.ensures.finds _ c.mixer_at.ensures d stands in
    let content = model.MixerObject (record found.value { matrix = c.args.matrix }) in
    let queues = same_queues c.args.self.now d stands c.in-Ok.index found.object content found.there (λ e. let z = sym (ap kind_number found.has) ∙ e in absurd (omega (arith, z))) refl in
    record {
      after = with_content d found.object.place content;
      step = inr (finding _ _ _ _ found.looks (refl, refl));
      stands = c.write.ensures d found.object content stands found.there queues (found.is.0, refl);
    }
