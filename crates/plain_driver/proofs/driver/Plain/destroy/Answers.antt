use Rattle.driver_model.specs.Objects.{Object}
use Rattle.plain_driver.proofs.Changed.{state_changed}
use Rattle.std.proofs.Common.{refl, false}
use Rattle.plain_driver.proofs.driver.Plain.destroy.Goals as goal

pub returns : goal.returns
returns c =
    let old = c.index_mut-object.result.now in
    state_changed c.args.self.now c.args.place old (record old { is_live = false }) (λ (object : Object). record object { is_live = false }) c.requires c.index_mut-object.ensures.value refl
