use Rattle.std.proofs.Common.{Some, ap, arith}
use Rattle.present_queue.proofs.ViewLemmas.{kept_read, object_read, queue_at-view, shown_within}
use Rattle.present_queue.proofs.queues.Queues.visible.Goals as goal

pub returns-in_err-holder : goal.returns-in_err-holder
returns-in_err-holder c =
    let view = queue_at-view _ _ _ _ c.self.invariant c.self.view_is c.args.queue in
    let read = kept_read _ _ _ _ c.self.invariant c.self.view_is c.args.queue c.index.result.now c.requires c.index.ensures in
    rw (view, ← read, c.in_err-holder.was) c.from_residual.ensures

pub index-requires-2 : goal.index-requires-2
index-requires-2 c =
    let read = kept_read _ _ _ _ c.self.invariant c.self.view_is c.args.queue c.index.result.now c.requires c.index.ensures in
    let within = shown_within _ _ _ _ c.self.invariant c.self.view_is c.args.queue c.in_ok-holder.holder c.index.result.now read c.in_ok-holder.was in
    omega (arith, within, c.self.invariant.each_object)

pub returns : goal.returns
returns c =
    let view = queue_at-view _ _ _ _ c.self.invariant c.self.view_is c.args.queue in
    let read = kept_read _ _ _ _ c.self.invariant c.self.view_is c.args.queue c.index.result.now c.requires c.index.ensures in
    let within = shown_within _ _ _ _ c.self.invariant c.self.view_is c.args.queue c.in_ok-holder.holder c.index.result.now read c.in_ok-holder.was in
    let object = object_read _ _ _ _ c.self.invariant c.self.view_is c.in_ok-holder.holder c.index-2.result.now within c.index-2.ensures in
    rw (view, ← read, c.in_ok-holder.was) (ap Some object)
