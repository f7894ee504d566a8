use Rattle.driver_model.specs.Objects.{Object}
use Rattle.plain_driver.proofs.Changed.{state_changed}
use Rattle.std.proofs.Common.{ap, false}
use Rattle.driver_model.specs.Clock.{let_go}
use Rattle.plain_driver.proofs.driver.Plain.destroy_queue.Goals as goal

pub returns : goal.returns
returns c =
    let old = c.index_mut-object.result.now in
    state_changed c.args.self.now c.args.place old (record old { is_live = false; content = c.let_go.new.content }) (λ (object : Object). record object { is_live = false; content = let_go object.content }) c.requires c.index_mut-object.ensures.value
    (ap (λ x. let o : Object = record { name = old.name; device = old.device; is_live = false; content = x } in o) c.let_go.ensures)
