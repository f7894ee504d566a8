use Rattle.std.proofs.Common.{◌≡◌, ◌<◌, map, length, sum_by, refl, sym, ap, subst, ◌∙◌, arith}
use Rattle.std.proofs.lemmas.List.{length-map}
use Rattle.slab.specs.Slab.{slab_len}
use Rattle.index_lists.specs.Lists.{HoldSameNodes, IsLinked}
use Rattle.index_lists.specs.Nodes.{link_of, queues_in}
use Rattle.index_lists.proofs.NodeLemmas.{AreListed-pushed, AreOfHolders-pushed, HoldSameNodes-sound, linked-key, not_both, queues-pushed}
use Rattle.index_lists.proofs.links.Links.push.Goals as goal

pub returns-then-linked-self-clause-same : goal.returns-then-linked-self-clause-same
returns-then-linked-self-clause-same c = subst HoldSameNodes c.self.view_is (HoldSameNodes-sound _ _ _ _ c.self.invariant)

pub append-requires-clause-unlinked : goal.append-requires-clause-unlinked
append-requires-clause-unlinked c = λ there. not_both _ c.insert_reserved-node.ensures.was_vacant ((c.self.invariant.queued.all c.insert_reserved-node.result).0 there)

pub append-requires-2-clause-unlinked : goal.append-requires-2-clause-unlinked
append-requires-2-clause-unlinked c = λ there. not_both _ c.insert_reserved-node.ensures.was_vacant ((c.self.invariant.held.all c.insert_reserved-node.result).0 there)

pub invariant_of-self : goal.invariant_of-self
invariant_of-self c =
    let nodes = c.self.inside.nodes in
    let by_queue = c.self.inside.by_queue in
    let by_holder = c.self.inside.by_holder in
    let made = c.insert_reserved-node.ensures in
    let queue : c.args.queue < length by_queue.lists = omega (arith, length-map by_queue.lists (map (link_of nodes)), subst (λ l. c.args.queue < length l.queues) (sym c.self.view_is) c.requires.queue) in
    let holder : c.args.holder < length by_holder.lists = subst (λ l. c.args.holder < length l.holders) (sym c.self.view_is) c.requires.holder in
    let count : c.linked.result ≡ slab_len nodes = c.linked.ensures.in_holders ∙ sym (c.self.invariant.held.counted ∙ ap (λ l. sum_by length l.holders) c.self.view_is) in
    record {
      queued = AreListed-pushed nodes _ by_queue _ c.self.invariant.queued _ c.args.queue _ made.was_vacant made.updates made.len made.capacity queue c.append.ensures.nodes c.append.ensures.lists c.append.ensures.once;
      held = AreListed-pushed nodes _ by_holder _ c.self.invariant.held _ c.args.holder _ made.was_vacant made.updates made.len made.capacity holder c.append-2.ensures.nodes c.append-2.ensures.lists c.append-2.ensures.once;
      of_holders = AreOfHolders-pushed nodes _ by_holder c.append-2.new.self c.self.invariant.held _ c.args.holder _ refl made.was_vacant made.updates holder c.append-2.ensures.lists c.self.invariant.of_holders;
      few = omega (arith, made.len, c.self.invariant.few, count, c.if-linked-self.false);
      room = omega (arith, c.self.invariant.room, made.capacity);
    }

pub returns-clause-free : goal.returns-clause-free
returns-clause-free c = λ linked. not_both _ c.insert_reserved-node.ensures.was_vacant (linked-key _ _ _ _ c.self.invariant c.insert_reserved-node.result (subst (λ l. IsLinked l c.insert_reserved-node.result) (sym c.self.view_is) linked))

pub returns-clause-queues : goal.returns-clause-queues
returns-clause-queues c =
    rw (← c.self.view_is) (
    ap (queues_in c.insert_reserved-node.new.self) c.append.ensures.lists
    ∙ queues-pushed _ _ _ _ c.self.invariant c.insert_reserved-node.new.self c.insert_reserved-node.result c.args.queue _ c.insert_reserved-node.ensures.was_vacant c.insert_reserved-node.ensures.updates
    )

pub returns-clause-same : goal.returns-clause-same
returns-clause-same c = HoldSameNodes-sound _ _ _ _ (invariant_of-self c)
