use Rattle.std.proofs.Common.{◌<◌, [], length, sym, ◌∙◌, arith}
use Rattle.index_lists.specs.Lists.{queue_of}
use Rattle.present_queue.proofs.FirstLinks.{BeginsWith-from_first, nil-from_first, set-set_rest, set_emptied, shorter}
use Rattle.present_queue.proofs.queues.unlink_all.Goals as goal

pub loop-node-smaller : goal.loop-node-smaller
loop-node-smaller c =
    let begins = BeginsWith-from_first (queue_of c.loop-node.links c.args.queue) c.in-Some.node c.in-Some.ensures.first in
    let within : c.args.queue < length c.loop-node.links.queues = omega arith in
    shorter c.loop-node.links.queues c.unlink.new.self.queues c.args.queue c.in-Some.node begins within (c.unlink.ensures.queues c.args.queue [] begins.rest begins.link begins.is begins.node_is)

pub loop-node-preserved : goal.loop-node-preserved
loop-node-preserved c =
    let begins = BeginsWith-from_first (queue_of c.loop-node.links c.args.queue) c.in-Some.node c.in-Some.ensures.first in
    record {
      emptied = set-set_rest c.loop-node.links.queues c.unlink.new.self.queues c.args.queue begins.rest (c.unlink.ensures.queues c.args.queue [] begins.rest begins.link begins.is begins.node_is) ∙ c.loop-node.invariant.emptied;
      queues = c.unlink.ensures.sizes.0 ∙ c.loop-node.invariant.queues;
      holders = c.unlink.ensures.sizes.1 ∙ c.loop-node.invariant.holders;
      nodes = c.unlink.ensures.nodes ∙ c.loop-node.invariant.nodes;
    }

pub returns-clause-queues : goal.returns-clause-queues
returns-clause-queues c =
    sym (set_emptied c.loop-node.links.queues c.args.queue (nil-from_first (queue_of c.loop-node.links c.args.queue) c.in_default.ensures.first)) ∙ c.loop-node.invariant.emptied
