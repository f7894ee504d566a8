use Rattle.std.proofs.Common.{◌≡◌, false, Some, slice_get, None, refl, sym, ap, ◌∙◌, subst}
use Rattle.cb_types.specs.SizeMbs.{IsWithinLimits}
use Rattle.driver_model.specs.Objects as model
use Rattle.driver_objects.specs.declared.content.Content.{Content}
use Rattle.driver_objects.specs.declared.content.Content.TheVariants as content
use Rattle.driver_objects.specs.declared.content.OutputSurface.{OutputSurface}
use Rattle.driver_objects.specs.declared.stored.Stored.TheVariants.{Own}
use Rattle.driver_objects.proofs.Lists.{element_is}
use Rattle.driver_core.specs.Roles.{SameRole}
use Rattle.driver_core.specs.Stands.{IsContent, is_owed}
use Rattle.driver_core.proofs.Giving.{given_home, given_stands}
use Rattle.driver_core.proofs.PixelBits.{output_fits}
use Rattle.driver_core.proofs.Targets.{has_output, output_is_given, size_is}
use Rattle.driver_core.proofs.driver.Core.give_pixels.Goals as goal

pub give-requires : goal.give-requires
give-requires c =
    let core = c.args.self.now in
    let has = c.content.ensures in
    let before = c.in-Output.surface in
    let now : OutputSurface = record before { size = c.args.size; pixels = Own c.args.pixels } in
    let was : has.object.content ≡ content.Output before = has.has ∙ c.in-Output.is in
    let size : before.size ≡ c.args.size = size_is before.size c.args.size (sym c.ne.ensures ∙ c.if-ne.false) in
    let fits = core.sound.outputs c.args.index has.object before has.there was in
    let role : SameRole (content.Output before) (content.Output now) = record { kind = refl; device = refl; holder = refl; number = refl } in
    (c.content.result.now, has, subst (λ (x : Content). SameRole x (content.Output now)) (sym c.in-Output.is) role, output_fits now (subst IsWithinLimits size fits.0) c.requires.count fits.2)

pub returns : goal.returns
returns c d note object number stands out ok there its owes =
    let core = c.args.self.now in
    let has = c.content.ensures in
    let before = c.in-Output.surface in
    let now : OutputSurface = record before { size = c.args.size; pixels = Own c.args.pixels } in
    let same : object.content ≡ content.Output before = ap (λ (o : _). o.content) (element_is object has.object (sym there ∙ has.there)) ∙ (has.has ∙ c.in-Output.is) in
    let is : (one : model.Object) → slice_get d.objects object.place ≡ Some one
    → IsContent core.queues false one.content (content.Output now) × (model.as_queue one.content ≡ None) =
    λ one at.
    let surface = has_output d note.target one (subst (λ p. slice_get d.objects p ≡ Some one) its at) owes.surface owes.there in
    let k = stands.kept c.args.index object there in
    let kept_one : k.0 ≡ one = element_is k.0 one (sym k.1 ∙ at) in
    let kept : IsContent core.queues (is_owed d object.place) (model.OutputObject owes.surface) (content.Output before) =
    subst (λ x. IsContent core.queues (is_owed d object.place) x (content.Output before)) (ap (λ (o : model.Object). o.content) kept_one ∙ surface)
    (subst (λ x. IsContent core.queues (is_owed d object.place) k.0.content x) same k.3.content) in (
      subst (λ x. IsContent core.queues false x (content.Output now)) (sym surface)
          (output_is_given core.queues (is_owed d object.place) owes.surface before now kept refl (sym owes.of_size) refl (sym owes.owed)),
      ap model.as_queue surface,
    )
    in
    (given_stands core d stands note number out ok c.args.index object there its _ _ c.give.ensures is, given_home core d stands note number out ok c.args.index object there its _ _ c.give.ensures is)
