use Rattle.std.proofs.Common.{ap, sym, ◌∙◌}
use Rattle.present_queue.proofs.ViewLemmas.{kept_read, queue_at-view}
use Rattle.present_queue.proofs.queues.Queues.promised.Goals as goal

pub returns : goal.returns
returns c =
    let view = queue_at-view _ _ _ _ c.self.invariant c.self.view_is c.args.queue in
    let read = kept_read _ _ _ _ c.self.invariant c.self.view_is c.args.queue c.index.result.now c.requires c.index.ensures in
    ap (λ k. k.promise) read ∙ sym (ap (λ q. q.promise) view)
