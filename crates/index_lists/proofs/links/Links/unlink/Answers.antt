use Rattle.std.proofs.Common.{◌≡◌, ℕ, ◌++◌, ◌∷◌, Contains, set, sym, ap, ap₂, subst, ◌∙◌, arith}
use Rattle.std.proofs.lemmas.List.{length-map}
use Rattle.index_lists.specs.Lists.{IsLinked, list_at}
use Rattle.index_lists.specs.Nodes.{link_of, queues_in}
use Rattle.index_lists.proofs.Maps.{list_at-map, map-split}
use Rattle.index_lists.proofs.NodeLemmas.{AreListed-removed, AreOfHolders-removed, HoldSameNodes-sound, at_key, linked-key, not_both, queues-removed}
use Rattle.index_lists.proofs.Places.{Contains-split}
use Rattle.index_lists.proofs.links.Links.unlink.Goals as goal

pub remove-requires : goal.remove-requires
remove-requires c = linked-key _ _ _ _ c.self.invariant c.args.node (subst (λ l. IsLinked l c.args.node) (sym c.self.view_is) c.requires)

pub unlink-requires : goal.unlink-requires
unlink-requires c = (c.self.invariant.queued.all c.args.node).1 (at_key c.self.inside.nodes c.args.node c.remove.result c.remove.ensures.value)

pub unlink-requires-2 : goal.unlink-requires-2
unlink-requires-2 c = (c.self.invariant.held.all c.args.node).1 (at_key c.self.inside.nodes c.args.node c.remove.result c.remove.ensures.value)

pub invariant_of-self : goal.invariant_of-self
invariant_of-self c =
    let nodes = c.self.inside.nodes in
    let left = c.remove.ensures in
    let queue = (c.self.invariant.queued.all c.args.node).1 (at_key nodes c.args.node c.remove.result left.value) in
    let holder = (c.self.invariant.held.all c.args.node).1 (at_key nodes c.args.node c.remove.result left.value) in
    let queued = Contains-split _ c.args.node queue.1 in
    let held = Contains-split _ c.args.node holder.1 in
    let queues = c.unlink.ensures.lists queue.0 queued.0 queued.1 queued.2 in
    let holders = c.unlink-2.ensures.lists holder.0 held.0 held.1 held.2 in
    record {
      queued = AreListed-removed nodes _ c.self.inside.by_queue _ c.self.invariant.queued c.args.node queue.0 queued.0 queued.1 queued.2 left.updates left.len left.capacity c.unlink.ensures.nodes queues c.unlink.ensures.once;
      held = AreListed-removed nodes _ c.self.inside.by_holder _ c.self.invariant.held c.args.node holder.0 held.0 held.1 held.2 left.updates left.len left.capacity c.unlink-2.ensures.nodes holders c.unlink-2.ensures.once;
      of_holders = AreOfHolders-removed nodes _ c.self.inside.by_holder c.unlink-2.new.self c.self.invariant.held c.args.node holder.0 held.0 held.1 held.2 left.updates holders c.self.invariant.of_holders;
      few = omega (arith, c.self.invariant.few, left.len);
      room = omega (arith, c.self.invariant.room, left.capacity);
    }

pub returns-clause-queues : goal.returns-clause-queues
returns-clause-queues c =
    rw (← c.self.view_is) (
    λ queue before after link split is.
    let nodes = c.self.inside.nodes in
    let lists = c.self.inside.by_queue.lists in
    let parts = map-split (link_of nodes) (list_at lists queue) before link after (sym (list_at-map (link_of nodes) lists queue) ∙ split) in
    let number : parts.1 ≡ c.args.node = ap (λ l. l.node) parts.5 ∙ is in
    let stood : list_at lists queue ≡ parts.0 ++ c.args.node ∷ parts.2 = parts.3 ∙ ap (λ n. parts.0 ++ n ∷ parts.2) number in
    let left = c.unlink.ensures.lists queue parts.0 parts.2 stood in
    let gone : (i : ℕ) → ¬ Contains (list_at c.unlink.new.self.lists i) c.args.node = λ i stands. not_both _ c.remove.ensures.updates.changed (((invariant_of-self c).queued.all c.args.node).0 (i, stands)) in
    ap (queues_in c.remove.new.self) left
    ∙ queues-removed _ _ _ _ c.self.invariant c.remove.new.self c.args.node queue parts.0 parts.2 c.remove.ensures.updates (λ i stands. gone i (subst (λ ls. Contains (list_at ls i) c.args.node) (sym left) stands))
    ∙ ap₂ (λ us vs. set (queues_in nodes lists) queue (us ++ vs)) parts.4 parts.6
    )

pub returns-clause-sizes : goal.returns-clause-sizes
returns-clause-sizes c = rw (← c.self.view_is) (length-map _ _ ∙ c.unlink.ensures.count ∙ sym (length-map _ _), c.unlink-2.ensures.count)

pub returns-clause-freed : goal.returns-clause-freed
returns-clause-freed c = λ linked. not_both _ c.remove.ensures.updates.changed (linked-key _ _ _ _ (invariant_of-self c) c.args.node linked)

pub returns-clause-same : goal.returns-clause-same
returns-clause-same c = HoldSameNodes-sound _ _ _ _ (invariant_of-self c)
