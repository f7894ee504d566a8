use Rattle.std.proofs.Common.{◌≡◌, Some, None, slice_get, map, refl, inr, ap, subst, ◌∙◌}
use Rattle.std.specs.List.{filter}
use Rattle.std.specs.Option.{ok_or}
use Rattle.vd_status.specs.declared.refusal.Refusal.TheVariants.{InvalidHandle}
use Rattle.driver_model.specs.Clock.{destroyed_on}
use Rattle.driver_model.specs.Objects as model
use Rattle.driver_model.specs.declared.numbers.TheConstants as number
use Rattle.driver_objects.specs.Kept.{kept_of, made_of}
use Rattle.driver_objects.specs.Listed.{IsOnly, called}
use Rattle.driver_objects.specs.Swept.{is_wanted}
use Rattle.driver_objects.proofs.Searched.{place_is_one}
use Rattle.driver_core.proofs.EndedSound.{QueuesEnd, ended_sound, ended_within, swept}
use Rattle.driver_core.proofs.EndedStands.{ended_stands}
use Rattle.driver_core.proofs.Handles.{called_within}
use Rattle.driver_core.proofs.ModelKinds.{device_kind, device_other}
use Rattle.driver_core.proofs.Named.{found_none, found_some}
use Rattle.driver_core.proofs.Steps.{finding, refusing}
use Rattle.driver_core.proofs.driver.Core.device_destroy.Goals as goal

pub returns-in_default : goal.returns-in_default
returns-in_default c d caller stands =
    let core = c.args.self.now in
    let none : IsOnly (called number.DEVICE c.args.device) (kept_of core.objects) None = subst (IsOnly (called number.DEVICE c.args.device) (kept_of core.objects)) c.in_default.is c.find.ensures in
    let looks = found_none model.as_device number.DEVICE device_kind device_other core d stands c.args.device none in
    record { after = d; step = inr (refusing _ _ _ _ (ap (λ found. ok_or found (InvalidHandle 0)) looks) (refl, refl)); stands = stands }

pub object-requires : goal.object-requires
object-requires c =
    let core = c.args.self.now in
    called_within core number.DEVICE c.args.device c.in-Some.index (subst (IsOnly (called number.DEVICE c.args.device) (kept_of core.objects)) c.in-Some.is c.find.ensures)

pub sweep-requires : goal.sweep-requires
sweep-requires c = ended_within c.args.self.now c.object.result.now.place (kept_of c.destroy_all.new.objects) c.destroy_all.ensures.kept

pub invariant_of-self : goal.invariant_of-self
invariant_of-self c =
    let core = c.args.self.now in
    let on = c.object.result.now.place in
    let queues = c.destroy_all.new.queues in
    let objects = c.sweep.new.objects in
    let ends : QueuesEnd core on queues = record { emptied = c.destroy_all.ensures.emptied; others = c.destroy_all.ensures.others; count = c.destroy_all.ensures.count } in
    let kept : kept_of objects ≡ swept core on queues ends = c.sweep.ensures.kept ∙ ap (filter (is_wanted queues)) c.destroy_all.ensures.kept in
    let one_place = place_is_one objects.names (kept_of objects) (made_of objects) objects.sound in
    rw (kept, c.sweep.ensures.made, c.destroy_all.ensures.made) (record {
      sound = ended_sound core on queues ends (λ i j a b at bt e. one_place i j a b (ap (λ k. slice_get k i) kept ∙ at) (ap (λ k. slice_get k j) kept ∙ bt) e);
    })

pub returns : goal.returns
returns c d caller stands =
    let core = c.args.self.now in
    let object = c.object.result.now in
    let on = object.place in
    let queues = c.destroy_all.new.queues in
    let only : IsOnly (called number.DEVICE c.args.device) (kept_of core.objects) (Some c.in-Some.index) = subst (IsOnly (called number.DEVICE c.args.device) (kept_of core.objects)) c.in-Some.is c.find.ensures in
    let finds = found_some model.as_device number.DEVICE device_kind device_other core d stands c.args.device c.in-Some.index object only c.object.ensures in
    let ends : QueuesEnd core on queues = record { emptied = c.destroy_all.ensures.emptied; others = c.destroy_all.ensures.others; count = c.destroy_all.ensures.count } in
    let kept : kept_of c.sweep.new.objects ≡ swept core on queues ends = c.sweep.ensures.kept ∙ ap (filter (is_wanted queues)) c.destroy_all.ensures.kept in
    record {
      after = record d { objects = map (destroyed_on on) d.objects };
      step = inr (finding _ _ _ _ (ap (λ found. ok_or found (InvalidHandle 0)) finds.found) (refl, refl));
      stands = ended_stands core on queues ends d stands _ kept (c.sweep.ensures.made ∙ c.destroy_all.ensures.made) (λ names given. c.sweep.ensures.given names (c.destroy_all.ensures.given names given)) refl refl;
    }
