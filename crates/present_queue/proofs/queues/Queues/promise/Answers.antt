use Rattle.std.proofs.Common.{refl, set, ap, ◌∙◌}
use Rattle.present_queue.proofs.ViewLemmas.{kept_read, queue_at-view, view-set_kept}
use Rattle.present_queue.proofs.queues.Queues.promise.Goals as goal

pub returns : goal.returns
returns c =
    let view = queue_at-view _ _ _ _ c.self.invariant c.self.view_is c.args.queue in
    let read = kept_read _ _ _ _ c.self.invariant c.self.view_is c.args.queue c.index_mut-kept.result.now c.requires c.index_mut-kept.ensures.value in
    let after = view-set_kept _ _ _ _ c.self.invariant c.self.view_is c.args.queue in
    after _ ∙ ap (set c.args.self.now c.args.queue) (rw (view, c.max-kept.ensures, read) refl)
