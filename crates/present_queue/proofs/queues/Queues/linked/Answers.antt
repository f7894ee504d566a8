use Rattle.std.proofs.Common.{sym, ◌∙◌}
use Rattle.present_queue.proofs.ViewLemmas.{IsWithinLimits-view, count_entries-view}
use Rattle.present_queue.proofs.queues.Queues.linked.Goals as goal

pub returns-clause-entries : goal.returns-clause-entries
returns-clause-entries c = c.linked.ensures.in_queues ∙ sym (count_entries-view _ _ _ _ c.self.invariant c.self.view_is)

pub returns-clause-limits : goal.returns-clause-limits
returns-clause-limits c = IsWithinLimits-view _ _ _ _ c.self.invariant c.self.view_is
