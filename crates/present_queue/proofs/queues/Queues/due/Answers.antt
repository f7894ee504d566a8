use Rattle.std.proofs.Common.{◌≡◌, ◌<◌, ℕ, Option, None, Some, option_map, sym, ap, ◌∙◌, arith}
use Rattle.index_lists.specs.Lists.{list_at}
use Rattle.present_queue.specs.Queue.{due}
use Rattle.present_queue.specs.Queues.{entry_of, queue_at}
use Rattle.present_queue.specs.Kept.{kept_at}
use Rattle.present_queue.specs.declared.entry.Entry.{Entry}
use Rattle.std.specs.List.{slice_index}
use Rattle.present_queue.proofs.FirstLinks.{BeginsWith-from_first, Contains-first, nil-from_first}
use Rattle.present_queue.proofs.Steps.{is_due, not_due, nothing_due}
use Rattle.present_queue.proofs.ViewLemmas.{object_read, queue_at-view}
use Rattle.present_queue.proofs.queues.Queues.due.Goals as goal

pub returns-in_err-node : goal.returns-in_err-node
returns-in_err-node c =
    let view = queue_at-view _ _ _ _ c.self.invariant c.self.view_is c.args.queue in
    let empty = nil-from_first (list_at c.self.inside.links.queues c.args.queue) c.in_err-node.ensures.first in
    let none : due (queue_at c.args.self.now c.args.queue) c.args.time ≡ None = ap (λ q. due q c.args.time) view ∙ nothing_due c.self.inside.objects.items (kept_at c.self.inside.kept.items c.args.queue) c.args.time (list_at c.self.inside.links.queues c.args.queue) empty in
    c.from_residual.ensures ∙ sym (ap (option_map entry_of) none)

pub returns-then-time-earliest : goal.returns-then-time-earliest
returns-then-time-earliest c =
    let view = queue_at-view _ _ _ _ c.self.invariant c.self.view_is c.args.queue in
    let list = list_at c.self.inside.links.queues c.args.queue in
    let begins = BeginsWith-from_first list c.in_ok-node.node c.in_ok-node.ensures.first in
    let value = c.value-earliest.ensures c.args.queue begins.link (Contains-first list c.in_ok-node.node begins) begins.node_is in
    let none : due (queue_at c.args.self.now c.args.queue) c.args.time ≡ None = ap (λ q. due q c.args.time) view ∙ not_due c.self.inside.objects.items (kept_at c.self.inside.kept.items c.args.queue) c.args.time list c.in_ok-node.node begins (omega arith) in
    sym (ap (option_map entry_of) none)

pub returns : goal.returns
returns c =
    let view = queue_at-view _ _ _ _ c.self.invariant c.self.view_is c.args.queue in
    let list = list_at c.self.inside.links.queues c.args.queue in
    let begins = BeginsWith-from_first list c.in_ok-node.node c.in_ok-node.ensures.first in
    let there = Contains-first list c.in_ok-node.node begins in
    let value = c.value-earliest.ensures c.args.queue begins.link there begins.node_is in
    let holder = c.holder.ensures.holder c.args.queue begins.link there begins.node_is in
    let within : c.holder.result < 5184 = omega (arith, c.holder.ensures.in_range, c.self.invariant.holders) in
    let object = object_read _ _ _ _ c.self.invariant c.self.view_is c.holder.result c.index-object.result.now within c.index-object.ensures in
    let taken = ap (λ q. due q c.args.time) view ∙ is_due c.self.inside.objects.items (kept_at c.self.inside.kept.items c.args.queue) c.args.time list c.in_ok-node.node begins (omega arith) in
    let entry : ℕ → ℕ → Option Entry = λ o e. Some (record { object = o; earliest = e }) in
    ap (λ o. entry o c.value-earliest.result) (object ∙ ap (slice_index c.self.inside.objects.items) holder)
    ∙ (ap (entry (slice_index c.self.inside.objects.items begins.link.holder)) value ∙ sym (ap (option_map entry_of) taken))
