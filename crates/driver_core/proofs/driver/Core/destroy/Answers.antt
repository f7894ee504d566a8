use Rattle.std.proofs.Common.{◌≡◌, refl, ap, ◌∙◌}
use Rattle.std.specs.List.{remove}
use Rattle.driver_objects.specs.Kept.{kept_of, made_of}
use Rattle.driver_objects.specs.Listed.{destroyed as destroyed_object}
use Rattle.driver_objects.proofs.Lists.{get_set_same}
use Rattle.driver_objects.proofs.Removed.{remove_set}
use Rattle.driver_core.proofs.GoneSound.{gone_sound}
use Rattle.driver_core.proofs.GoneStands.{gone_stands}
use Rattle.driver_core.proofs.driver.Core.destroy.Goals as goal

pub forget-requires : goal.forget-requires
forget-requires c =
    let may = c.requires in
    let kept = kept_of c.args.self.now.objects in
    rw (c.destroy.ensures.now may.object may.there)
    (record { object = destroyed_object may.object; stands = get_set_same kept c.args.index may.object (destroyed_object may.object) may.there; passes = refl })

pub invariant_of-self : goal.invariant_of-self
invariant_of-self c =
    let core = c.args.self.now in
    let may = c.requires in
    let kept : kept_of c.forget.new.self ≡ remove (kept_of core.objects) c.args.index =
    c.forget.ensures.now ∙ (ap (λ k. remove k c.args.index) (c.destroy.ensures.now may.object may.there) ∙ remove_set (kept_of core.objects) c.args.index (destroyed_object may.object)) in
    rw (kept, c.forget.ensures.made, c.destroy.ensures.made) (record { sound = gone_sound (kept_of core.objects) (made_of core.objects) core.queues core.jobs.items core.sound c.args.index may })

pub returns : goal.returns
returns c d object stands there =
    let core = c.args.self.now in
    let may = c.requires in
    let kept : kept_of c.forget.new.self ≡ remove (kept_of core.objects) c.args.index =
    c.forget.ensures.now ∙ (ap (λ k. remove k c.args.index) (c.destroy.ensures.now may.object may.there) ∙ remove_set (kept_of core.objects) c.args.index (destroyed_object may.object)) in
    gone_stands core d stands c.args.index may _ object there kept (c.forget.ensures.made ∙ c.destroy.ensures.made) (λ names is. c.forget.ensures.given names (c.destroy.ensures.given names is)) refl refl
