use Rattle.std.proofs.Common.{◌≡◌, ◌<◌, None, option_map, sym, ap, ◌∙◌, arith}
use Rattle.index_lists.specs.Lists.{list_at}
use Rattle.present_queue.specs.Queue.{due}
use Rattle.present_queue.specs.Queues.{entry_of, queue_at}
use Rattle.present_queue.specs.Kept.{kept_at}
use Rattle.present_queue.proofs.FirstLinks.{BeginsWith-from_first, Contains-first, nil-from_first}
use Rattle.present_queue.proofs.Steps.{not_due, nothing_due, unticked}
use Rattle.present_queue.proofs.Taken.{IsSound-taken, entry-taken, view-taken}
use Rattle.present_queue.proofs.ViewLemmas.{kept_read, object_read, queue_at-view}
use Rattle.present_queue.proofs.queues.Queues.tick.Goals as goal

none_at_all : (c : goal.After-from_residual) → due (queue_at c.args.self.now c.args.queue) c.args.time ≡ None
none_at_all c =
    let view = queue_at-view _ _ _ _ c.self.invariant c.self.view_is c.args.queue in
    let empty = nil-from_first (list_at c.self.inside.links.queues c.args.queue) c.in_err-node.ensures.first in
    ap (λ q. due q c.args.time) view ∙ nothing_due c.self.inside.objects.items (kept_at c.self.inside.kept.items c.args.queue) c.args.time (list_at c.self.inside.links.queues c.args.queue) empty

pub returns-in_err-node-clause-entry : goal.returns-in_err-node-clause-entry
returns-in_err-node-clause-entry c = c.from_residual.ensures ∙ sym (ap (option_map entry_of) (none_at_all c))

pub returns-in_err-node-clause-after : goal.returns-in_err-node-clause-after
returns-in_err-node-clause-after c = unticked c.args.self.now c.args.queue c.args.time (none_at_all c)

none_yet : (c : goal.Then-time-earliest) → due (queue_at c.args.self.now c.args.queue) c.args.time ≡ None
none_yet c =
    let view = queue_at-view _ _ _ _ c.self.invariant c.self.view_is c.args.queue in
    let list = list_at c.self.inside.links.queues c.args.queue in
    let begins = BeginsWith-from_first list c.in_ok-node.node c.in_ok-node.ensures.first in
    let value = c.value-earliest.ensures c.args.queue begins.link (Contains-first list c.in_ok-node.node begins) begins.node_is in
    ap (λ q. due q c.args.time) view ∙ not_due c.self.inside.objects.items (kept_at c.self.inside.kept.items c.args.queue) c.args.time list c.in_ok-node.node begins (omega arith)

pub returns-then-time-earliest-clause-entry : goal.returns-then-time-earliest-clause-entry
returns-then-time-earliest-clause-entry c = sym (ap (option_map entry_of) (none_yet c))

pub returns-then-time-earliest-clause-after : goal.returns-then-time-earliest-clause-after
returns-then-time-earliest-clause-after c = unticked c.args.self.now c.args.queue c.args.time (none_yet c)

pub invariant_of-self : goal.invariant_of-self
invariant_of-self c =
    IsSound-taken _ c.unlink.new.self _ _ _ c.self.invariant c.self.view_is c.args.queue c.args.time c.in_ok-node.node c.value-earliest.result c.holder-holder.result c.requires c.if-time-earliest.false
    c.index_mut-kept.result.now (kept_read _ _ _ _ c.self.invariant c.self.view_is c.args.queue c.index_mut-kept.result.now c.requires c.index_mut-kept.ensures.value)
    c.in_ok-node.ensures.first c.value-earliest.ensures c.holder-holder.ensures.holder c.unlink.ensures.queues
    c.holder-holder.ensures.in_range c.unlink.ensures.sizes.1 c.unlink.ensures.nodes

pub returns-clause-entry : goal.returns-clause-entry
returns-clause-entry c =
    let within : c.holder-holder.result < 5184 = omega (arith, c.holder-holder.ensures.in_range, c.self.invariant.holders) in
    entry-taken _ c.unlink.new.self _ _ _ c.self.invariant c.self.view_is c.args.queue c.args.time c.in_ok-node.node c.value-earliest.result c.holder-holder.result c.requires c.if-time-earliest.false
    c.index_mut-kept.result.now (kept_read _ _ _ _ c.self.invariant c.self.view_is c.args.queue c.index_mut-kept.result.now c.requires c.index_mut-kept.ensures.value)
    c.in_ok-node.ensures.first c.value-earliest.ensures c.holder-holder.ensures.holder c.unlink.ensures.queues
    c.index.result.now (object_read _ _ _ _ c.self.invariant c.self.view_is c.holder-holder.result c.index.result.now within c.index.ensures)

pub returns-clause-after : goal.returns-clause-after
returns-clause-after c =
    view-taken _ c.unlink.new.self _ _ _ c.self.invariant c.self.view_is c.args.queue c.args.time c.in_ok-node.node c.value-earliest.result c.holder-holder.result c.requires c.if-time-earliest.false
    c.index_mut-kept.result.now (kept_read _ _ _ _ c.self.invariant c.self.view_is c.args.queue c.index_mut-kept.result.now c.requires c.index_mut-kept.ensures.value)
    c.in_ok-node.ensures.first c.value-earliest.ensures c.holder-holder.ensures.holder c.unlink.ensures.queues
