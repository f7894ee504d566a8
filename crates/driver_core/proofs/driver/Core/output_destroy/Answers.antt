use Rattle.std.proofs.Common.{ap, refl, sym, inr, ◌∙◌}
use Rattle.std.specs.List.{filter}
use Rattle.driver_model.specs.States.{destroyed}
use Rattle.driver_objects.specs.Kept.{kept_of, made_of}
use Rattle.driver_objects.specs.Kinds.{kind_number}
use Rattle.driver_objects.specs.Swept.{is_wanted}
use Rattle.driver_objects.specs.declared.object.Object.{Object}
use Rattle.driver_objects.proofs.Lists.{one_kept}
use Rattle.driver_objects.proofs.Searched.{place_is_one}
use Rattle.driver_core.proofs.Destroying.{destroyed_within, output_gone_sound, output_gone_stands, output_number}
use Rattle.driver_core.proofs.Steps.{finding}
use Rattle.driver_core.proofs.driver.Core.output_destroy.Goals as goal

pub sweep-requires : goal.sweep-requires
sweep-requires c =
    let live = c.in-Ok.ensures.live in
    destroyed_within c.args.self.now c.in-Ok.index live.object live.there (kept_of c.destroy.new.self) (c.destroy.ensures.now live.object live.there)

pub invariant_of-self : goal.invariant_of-self
invariant_of-self c =
    let core = c.args.self.now in
    let live = c.in-Ok.ensures.live in
    let objects = c.sweep.new.objects in
    let kept = c.sweep.ensures.kept ∙ ap (filter (is_wanted core.queues)) (c.destroy.ensures.now live.object live.there) in
    record { sound = output_gone_sound core c.in-Ok.index live.object live.there (output_number live.object.content live.of_kind) (kept_of objects) (made_of objects) kept (c.sweep.ensures.made ∙ c.destroy.ensures.made) (place_is_one objects.names (kept_of objects) (made_of objects) objects.sound) }

pub returns-in-Ok : goal.returns-in-Ok
returns-in-Ok c d caller stands =
    let core = c.args.self.now in
    let live = c.in-Ok.ensures.live in
    let found = c.in-Ok.ensures.finds live.object.content (record { object = live.object; there = live.there; has = refl }) d stands in
    let same = one_kept (kept_of core.objects) c.in-Ok.index live.object found.object live.there found.there in
    let output = ap (λ (o : Object). kind_number o.content) (sym same) ∙ output_number live.object.content live.of_kind in
    let kept = c.sweep.ensures.kept ∙ ap (filter (is_wanted core.queues)) (c.destroy.ensures.now found.object found.there) in
    record {
      after = destroyed d found.object.place;
      step = inr (finding _ _ _ _ found.looks (refl, refl));
      stands = output_gone_stands core c.in-Ok.index found.object found.there output d stands _ kept (c.sweep.ensures.made ∙ c.destroy.ensures.made) (λ names given. c.sweep.ensures.given names (c.destroy.ensures.given names given)) refl refl;
    }
