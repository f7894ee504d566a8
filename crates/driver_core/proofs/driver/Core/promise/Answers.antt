use Rattle.std.proofs.Common.{inl, inr, ap, refl, ◌∙◌}
use Rattle.driver_model.specs.Objects as model
use Rattle.driver_model.specs.States.{with_content}
use Rattle.present_queue.specs.Queue.{promised}
use Rattle.present_queue.specs.Queues.{queue_at}
use Rattle.present_queue.proofs.NameLemmas.{Names-promised}
use Rattle.driver_objects.specs.Kept.{kept_of, made_of}
use Rattle.driver_objects.specs.Kinds.{number_of}
use Rattle.driver_objects.specs.declared.object.Object.{Object}
use Rattle.driver_objects.proofs.Lists.{one_kept}
use Rattle.driver_core.proofs.QueueSound.{queue_sound}
use Rattle.driver_core.proofs.QueueStands.{names_promised}
use Rattle.driver_core.proofs.QueueWrites.{queue_written}
use Rattle.driver_core.proofs.Steps.{finding}
use Rattle.driver_core.proofs.driver.Core.promise.Goals as goal

pub promise-requires : goal.promise-requires
promise-requires c =
    let has = c.in-Ok.ensures.has in
    c.args.self.now.sound.numbers _ has.object c.in-Ok.queue.number has.there (ap number_of has.has)

pub invariant_of-self : goal.invariant_of-self
invariant_of-self c =
    let core = c.args.self.now in
    let has = c.in-Ok.ensures.has in
    let was = queue_at core.queues c.in-Ok.queue.number in
    let queue = promised was c.args.time in
    rw c.promise.ensures
    (record { sound = queue_sound (kept_of core.objects) (made_of core.objects) core.queues core.jobs.items core.sound _ has.object c.in-Ok.queue.number has.there (ap number_of has.has) queue (core.sound.limits.entries c.in-Ok.queue.number) (λ surface named. names_promised was c.args.time surface named) (λ surface named. inl (Names-promised surface was c.args.time named)) })

pub returns-in-Ok : goal.returns-in-Ok
returns-in-Ok c d caller stands =
    let core = c.args.self.now in
    let found = c.in-Ok.ensures.finds d stands in
    let live = c.in-Ok.ensures.live in
    let lives = ap (λ (o : Object). o.is_live) (one_kept (kept_of core.objects) _ found.object live.object found.there live.stands) ∙ live.passes in
    let was = queue_at core.queues c.in-Ok.queue.number in
    let content = model.QueueObject (record found.value { queue = promised found.value.queue c.args.time }) in
    record {
      after = with_content d found.object.place content;
      step = inr (finding _ _ _ _ found.looks (refl, refl));
      stands = queue_written core d stands _ found.object c.in-Ok.queue found.there found.has lives found.value found.is _ (promised was c.args.time) (promised found.value.queue c.args.time) refl refl (λ names given. given) c.promise.ensures refl
          (λ surface named. names_promised was c.args.time surface named) (λ surface named. inl (Names-promised surface was c.args.time named)) (ap (λ q. promised q c.args.time) found.is.1);
    }
