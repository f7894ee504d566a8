use Rattle.std.proofs.Common.{◌≡◌, Ok, Err, ap, refl, ◌∙◌, subst}
use Rattle.driver_model.specs.Objects as model
use Rattle.driver_model.specs.Refusals.{further_handle}
use Rattle.driver_model.specs.States.{named}
use Rattle.driver_model.proofs.Named.{found_of}
use Rattle.driver_model.specs.declared.numbers.TheConstants as number
use Rattle.driver_objects.specs.Kept.{kept_of}
use Rattle.driver_objects.specs.Kinds.{number_of}
use Rattle.driver_objects.specs.declared.object.Object.{Object}
use Rattle.driver_objects.proofs.Lists.{one_kept}
use Rattle.driver_core.proofs.Displaying.{display_sound, display_takes, live_called, presented_err, presented_ok, refused_takes}
use Rattle.driver_core.proofs.Handles.{called_within, further_err, further_ok}
use Rattle.driver_core.proofs.ModelKinds.{output_is, output_kind, output_other}
use Rattle.driver_core.proofs.Presenting.{is_holder}
use Rattle.driver_core.proofs.Steps.{refusing}
use Rattle.driver_core.proofs.driver.Core.display.Goals as goal

pub returns-in_err-index-2 : goal.returns-in_err-index-2
returns-in_err-index-2 c d caller stands =
    let found = c.in_ok-index.ensures.finds d stands in
    let device = ap (λ (o : Object). o.device) (one_kept (kept_of c.args.self.now.objects) _ c.object.result.now found.object c.object.ensures found.there) in
    let looks = presented_err d c.args.queue c.args.surface _ found.looks _ c.args.earliest (subst (λ on. further_handle 1 on (named d model.as_output c.args.surface) ≡ Err c.in_err-index-2.field-0.0) device
    (further_err model.as_output (λ of. model.OutputObject of) number.OUTPUT_SURFACE output_kind output_other output_is c.args.self.now 1 c.args.surface c.object.result.now.device c.in_err-index-2.field-0.0 c.in_err-index-2.ensures d stands)) in
    refused_takes c.args.self.now d stands caller _ _ c.from_residual-in_err-index-2.result c.from_residual-in_err-index-2.ensures (refusing _ _ _ _ looks (refl, refl))

pub object-of-requires : goal.object-of-requires
object-of-requires c = called_within c.args.self.now number.OUTPUT_SURFACE c.args.surface c.in_ok-index-2.index c.in_ok-index-2.ensures.0

pub display-requires-clause-queue : goal.display-requires-clause-queue
display-requires-clause-queue c =
    let has = c.in_ok-index.ensures.has in
    c.args.self.now.sound.numbers _ has.object c.in_ok-index.on.number has.there (ap number_of has.has)

pub display-requires-clause-owner : goal.display-requires-clause-owner
display-requires-clause-owner c = is_holder c.args.self.now c.in_ok-index-2.index c.object-of.result.now c.holder_in-holder.result c.object-of.ensures c.holder_in-holder.ensures

pub invariant_of-self : goal.invariant_of-self
invariant_of-self c =
    let core = c.args.self.now in
    let queue = c.in_ok-index.ensures.has in
    let live = c.in_ok-index.ensures.live in
    let lives = ap (λ (o : Object). o.is_live) (one_kept (kept_of core.objects) _ queue.object live.object queue.there live.stands) ∙ live.passes in
    record {
      sound = display_sound core _ queue.object c.in_ok-index.on queue.there queue.has lives c.in_ok-index-2.index c.object-of.result.now c.holder_in-holder.result c.args.earliest c.object-of.ensures c.holder_in-holder.ensures
          (live_called core c.args.surface c.in_ok-index-2.index c.in_ok-index-2.ensures.0 c.object-of.result.now c.object-of.ensures) c.display.new.self c.display.result c.display.ensures.answer c.display.ensures.ok c.display.ensures.err;
    }

pub returns : goal.returns
returns c d caller stands =
    let core = c.args.self.now in
    let found = c.in_ok-index.ensures.finds d stands in
    let live = c.in_ok-index.ensures.live in
    let lives = ap (λ (o : Object). o.is_live) (one_kept (kept_of core.objects) _ found.object live.object found.there live.stands) ∙ live.passes in
    let device = ap (λ (o : Object). o.device) (one_kept (kept_of core.objects) _ c.object.result.now found.object c.object.ensures found.there) in
    let of = further_ok model.as_output (λ of. model.OutputObject of) number.OUTPUT_SURFACE output_kind output_other output_is core 1 c.args.surface c.object.result.now.device c.in_ok-index-2.index _ c.in_ok-index-2.ensures
    (record { object = c.object-of.result.now; there = c.object-of.ensures; has = refl }) d stands in
    let same = one_kept (kept_of core.objects) _ of.object c.object-of.result.now of.there c.object-of.ensures in
    let further = subst (λ on. further_handle 1 on (named d model.as_output c.args.surface) ≡ Ok (found_of c.object-of.result.now.place c.object-of.result.now.device of.value)) device
    (subst (λ (o : Object). further_handle 1 c.object.result.now.device (named d model.as_output c.args.surface) ≡ Ok (found_of o.place o.device of.value)) same of.looks) in
    display_takes core _ found.object c.in_ok-index.on found.there found.has lives c.in_ok-index-2.index c.object-of.result.now c.holder_in-holder.result c.args.earliest c.object-of.ensures c.holder_in-holder.ensures
    (live_called core c.args.surface c.in_ok-index-2.index c.in_ok-index-2.ensures.0 c.object-of.result.now c.object-of.ensures)
    d stands found.value found.is of.value caller c.args.queue c.args.surface (presented_ok d c.args.queue c.args.surface _ found.looks _ further)
    _ c.display.result refl refl c.display.ensures.answer c.display.ensures.ok c.display.ensures.err
