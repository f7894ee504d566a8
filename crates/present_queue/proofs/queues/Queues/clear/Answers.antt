use Rattle.std.proofs.Common.{[], set, ap, ◌∙◌}
use Rattle.present_queue.specs.Kept.{nothing_kept, queues_with}
use Rattle.present_queue.proofs.ViewLemmas.{view-set}
use Rattle.present_queue.proofs.queues.Queues.clear.Goals as goal

pub returns : goal.returns
returns c =
    ap (λ lists. queues_with c.self.inside.objects.items lists (set c.self.inside.kept.items c.args.queue nothing_kept)) c.unlink_all.ensures.queues
    ∙ view-set _ _ _ _ c.self.invariant c.self.view_is c.args.queue [] nothing_kept
