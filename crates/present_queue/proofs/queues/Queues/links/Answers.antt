use Rattle.present_queue.proofs.ViewLemmas.{HasNodesOf-view, IsWithinLimits-view}
use Rattle.present_queue.proofs.queues.Queues.links.Goals as goal

pub returns-clause-nodes : goal.returns-clause-nodes
returns-clause-nodes c = HasNodesOf-view _ _ _ _ c.self.invariant c.self.view_is

pub returns-clause-limits : goal.returns-clause-limits
returns-clause-limits c = IsWithinLimits-view _ _ _ _ c.self.invariant c.self.view_is
