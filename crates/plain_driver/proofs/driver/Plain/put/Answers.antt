use Rattle.driver_model.specs.Objects.{Object}
use Rattle.plain_driver.proofs.Changed.{state_changed}
use Rattle.std.proofs.Common.{refl}
use Rattle.plain_driver.specs.States.{content_of}
use Rattle.plain_driver.proofs.driver.Plain.put.Goals as goal

pub returns : goal.returns
returns c =
    let old = c.index_mut-object.result.now in
    state_changed c.args.self.now c.args.place old (record old { content = c.args.content }) (λ (object : Object). record object { content = content_of c.args.content }) c.requires c.index_mut-object.ensures.value refl
