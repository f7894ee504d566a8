use Rattle.std.proofs.Common.{◌≡◌, [], length, set}
use Rattle.index_lists.specs.Lists.{queue_of}
use Rattle.present_queue.proofs.queues.unlink_all.Given as goal

abbrev pub invariant-loop-node : goal.invariant-loop-node
invariant-loop-node l = record {
  emptied : set l.links.queues l.queue [] ≡ set l.initial.links.queues l.queue [];
  queues : length l.links.queues ≡ length l.initial.links.queues;
  holders : length l.links.holders ≡ length l.initial.links.holders;
  nodes : l.links.nodes ≡ l.initial.links.nodes;
}

abbrev pub decreases-loop-node : goal.decreases-loop-node
decreases-loop-node l = length (queue_of l.links l.queue)
