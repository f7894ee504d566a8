use Rattle.std.proofs.Common.{ap, refl, inr, ◌∙◌}
use Rattle.std.specs.List.{filter}
use Rattle.driver_model.specs.Objects as model
use Rattle.driver_model.specs.Queues.{emptied}
use Rattle.driver_model.specs.States.{destroyed_with}
use Rattle.driver_objects.specs.Kept.{kept_of, made_of}
use Rattle.driver_objects.specs.Kinds.{number_of}
use Rattle.driver_objects.specs.Swept.{is_wanted}
use Rattle.driver_objects.proofs.Searched.{place_is_one}
use Rattle.driver_core.proofs.Destroying.{destroyed_within, queue_gone_sound, queue_gone_stands}
use Rattle.driver_core.proofs.Steps.{finding}
use Rattle.driver_core.proofs.driver.Core.queue_destroy.Goals as goal

pub clear-requires : goal.clear-requires
clear-requires c =
    let has = c.in-Ok.ensures.has in
    c.args.self.now.sound.numbers _ has.object c.in-Ok.queue.number has.there (ap number_of has.has)

pub sweep-requires : goal.sweep-requires
sweep-requires c =
    let has = c.in-Ok.ensures.has in
    destroyed_within c.args.self.now _ has.object has.there (kept_of c.destroy.new.self) (c.destroy.ensures.now has.object has.there)

pub invariant_of-self : goal.invariant_of-self
invariant_of-self c =
    let core = c.args.self.now in
    let has = c.in-Ok.ensures.has in
    let objects = c.sweep.new.objects in
    let kept = c.sweep.ensures.kept ∙ ap (filter (is_wanted c.clear.new.self)) (c.destroy.ensures.now has.object has.there) in
    record { sound = queue_gone_sound core _ has.object c.in-Ok.queue has.there has.has (kept_of objects) (made_of objects) c.clear.new.self c.clear.ensures kept (c.sweep.ensures.made ∙ c.destroy.ensures.made) (place_is_one objects.names (kept_of objects) (made_of objects) objects.sound) }

pub returns-in-Ok : goal.returns-in-Ok
returns-in-Ok c d caller stands =
    let core = c.args.self.now in
    let found = c.in-Ok.ensures.finds d stands in
    let kept = c.sweep.ensures.kept ∙ ap (filter (is_wanted c.clear.new.self)) (c.destroy.ensures.now found.object found.there) in
    record {
      after = destroyed_with d found.object.place (model.QueueObject (emptied found.value));
      step = inr (finding _ _ _ _ found.looks (refl, refl));
      stands = queue_gone_stands core _ found.object c.in-Ok.queue found.there found.has d stands found.value _ kept (c.sweep.ensures.made ∙ c.destroy.ensures.made) (λ names given. c.sweep.ensures.given names (c.destroy.ensures.given names given)) c.clear.ensures refl;
    }
