use Rattle.std.proofs.Common.{◌≡◌, false, Some, slice_get, None, refl, sym, ap, ◌∙◌, subst}
use Rattle.cb_types.specs.SizeMbs.{IsWithinLimits}
use Rattle.driver_model.specs.Objects as model
use Rattle.driver_objects.specs.declared.content.Content.{Content}
use Rattle.driver_objects.specs.declared.content.Content.TheVariants as content
use Rattle.driver_objects.specs.declared.stored.Stored.TheVariants.{Own}
use Rattle.driver_core.specs.Roles.{SameRole}
use Rattle.driver_core.specs.Stands.{IsContent}
use Rattle.driver_core.proofs.Fitting.{video_fits}
use Rattle.driver_core.proofs.Giving.{given_home, given_stands}
use Rattle.driver_core.proofs.Targets.{has_video, size_is, video_is_given}
use Rattle.driver_core.proofs.driver.Core.give_picture.Goals as goal

pub give-requires : goal.give-requires
give-requires c =
    let core = c.args.self.now in
    let has = c.content.ensures in
    let was : has.object.content ≡ content.Video c.in-Video.surface = has.has ∙ c.in-Video.is in
    let size : c.in-Video.surface.size ≡ c.args.size = size_is c.in-Video.surface.size c.args.size (sym c.ne.ensures ∙ c.if-ne.false) in
    let limits = subst IsWithinLimits size (core.sound.videos c.args.index has.object c.in-Video.surface has.there was).0 in
    let role : SameRole (content.Video c.in-Video.surface) (content.Video (record { size = c.args.size; samples = Own c.args.picture })) = record { kind = refl; device = refl; holder = refl; number = refl } in
    (c.content.result.now, has, subst (λ (x : Content). SameRole x (content.Video (record { size = c.args.size; samples = Own c.args.picture }))) (sym c.in-Video.is) role, video_fits _ limits c.requires.size)

pub returns : goal.returns
returns c d note object number stands out ok there its owes =
    let core = c.args.self.now in
    let is : (one : model.Object) → slice_get d.objects object.place ≡ Some one
    → IsContent core.queues false one.content (content.Video (record { size = c.args.size; samples = Own c.args.picture })) × (model.as_queue one.content ≡ None) =
    λ one at.
    let surface = has_video d note.target one (subst (λ p. slice_get d.objects p ≡ Some one) its at) owes.surface owes.there in (
      subst (λ x. IsContent core.queues false x (content.Video (record { size = c.args.size; samples = Own c.args.picture }))) (sym surface)
          (video_is_given core.queues owes.surface (record { size = c.args.size; samples = Own c.args.picture }) (sym owes.of_size) (sym (owes.owed ok))),
      ap model.as_queue surface,
    )
    in
    (given_stands core d stands note number out ok c.args.index object there its _ _ c.give.ensures is, given_home core d stands note number out ok c.args.index object there its _ _ c.give.ensures is)
