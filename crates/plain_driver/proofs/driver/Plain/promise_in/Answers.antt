use Rattle.driver_model.specs.Objects.{Object}
use Rattle.plain_driver.proofs.Changed.{state_changed}
use Rattle.std.proofs.Common.{ap}
use Rattle.plain_driver.specs.Presenting.{promised_in}
use Rattle.plain_driver.proofs.driver.Plain.promise_in.Goals as goal

pub returns : goal.returns
returns c =
    let old = c.index_mut-object.result.now in
    state_changed c.args.self.now c.args.place old (record old { content = c.promise.new.content }) (λ (object : Object). record object { content = promised_in c.args.time object.content }) c.requires c.index_mut-object.ensures.value
    (ap (λ x. let o : Object = record { name = old.name; device = old.device; is_live = old.is_live; content = x } in o) c.promise.ensures)
