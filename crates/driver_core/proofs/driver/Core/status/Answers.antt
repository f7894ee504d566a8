use Rattle.std.proofs.Common.{◌≡◌, if◌then◌else◌, subst}
use Rattle.driver_model.specs.Presented.{status_at}
use Rattle.driver_model.specs.declared.replies.PresentStatus.TheVariants.{Idle, Queued}
use Rattle.driver_core.specs.Standing.{OfPlace}
use Rattle.driver_core.proofs.Standing.{holder_below, status_else, status_visible}
use Rattle.driver_core.proofs.driver.Core.status.Goals as goal

pub shown-requires : goal.shown-requires
shown-requires c = holder_below c.args.self.now c.args.index _ c.output_in.result.now c.content.ensures c.output_in.ensures

pub queued-requires : goal.queued-requires
queued-requires c = holder_below c.args.self.now c.args.index _ c.output_in.result.now c.content.ensures c.output_in.ensures

pub returns-then-shown : goal.returns-then-shown
returns-then-shown c = status_visible c.args.self.now c.args.index _ c.output_in.result.now c.content.ensures c.output_in.ensures c.shown.result c.shown.ensures.by_object c.if-shown.true

pub returns-then-queued : goal.returns-then-queued
returns-then-queued c =
    subst (λ q. OfPlace c.args.self.now c.args.index (λ d place. (if q then Queued else Idle) ≡ status_at d place)) c.if-queued.true
    (status_else c.args.self.now c.args.index _ c.output_in.result.now c.content.ensures c.output_in.ensures c.shown.result c.queued.result c.shown.ensures.by_object c.queued.ensures.by_object c.if-shown.false)

pub returns-else-queued : goal.returns-else-queued
returns-else-queued c =
    subst (λ q. OfPlace c.args.self.now c.args.index (λ d place. (if q then Queued else Idle) ≡ status_at d place)) c.if-queued.false
    (status_else c.args.self.now c.args.index _ c.output_in.result.now c.content.ensures c.output_in.ensures c.shown.result c.queued.result c.shown.ensures.by_object c.queued.ensures.by_object c.if-shown.false)
