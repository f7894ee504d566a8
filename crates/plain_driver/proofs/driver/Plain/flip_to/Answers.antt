use Rattle.driver_model.specs.Objects.{Object}
use Rattle.plain_driver.proofs.Changed.{state_changed, state_unchanged}
use Rattle.std.proofs.Common.{ap, arith}
use Rattle.driver_model.specs.Clock.{with_flip}
use Rattle.plain_driver.proofs.driver.Plain.flip_to.Goals as goal

pub returns-then-place-len : goal.returns-then-place-len
returns-then-place-len c =
    let old = c.index_mut-object.result.now in
    state_changed c.args.self.now c.args.place old (record old { content = c.flip_to.new.content }) (λ (object : Object). record object { content = with_flip c.args.queue c.args.time object.content }) (omega (arith, c.len.ensures, c.if-place-len.true, c.args.self.now.objects.ok.0)) c.index_mut-object.ensures.value
    (ap (λ x. let o : Object = record { name = old.name; device = old.device; is_live = old.is_live; content = x } in o) c.flip_to.ensures)

pub returns-else-place-len : goal.returns-else-place-len
returns-else-place-len c = state_unchanged c.args.self.now c.args.place (λ (object : Object). record object { content = with_flip c.args.queue c.args.time object.content }) (omega (arith, c.len.ensures, c.if-place-len.false, c.args.self.now.objects.ok.0))
