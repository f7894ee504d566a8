use Rattle.std.proofs.Common.{◌≡◌, is_some, count_by, sym, ap, subst, arith}
use Rattle.slab.specs.Slab.{slab_len}
use Rattle.index_lists.specs.Nodes.{IsSound}
use Rattle.index_lists.proofs.Maps.{map-replicate_nil}
use Rattle.index_lists.proofs.NodeLemmas.{AreListed-empty, AreOfHolders-empty, HoldSameNodes-empty}
use Rattle.index_lists.proofs.links.Links.new.Goals as goal

pub returns-clause-queues : goal.returns-clause-queues
returns-clause-queues c = rw c.in_ok-new.ensures.lists (map-replicate_nil _ c.args.queues)

pub returns-clause-same : goal.returns-clause-same
returns-clause-same c = HoldSameNodes-empty _ c.args.queues c.args.holders (returns-clause-queues c) c.in_ok-new-2.ensures.lists

pub invariant_of-result-2 : goal.invariant_of-result-2
invariant_of-result-2 c =
    let slots = c.in_ok-slots.slots in
    let queues = c.in_ok-new.ensures in
    let holders = c.in_ok-new-2.ensures in
    let made : IsSound slots c.in_ok-new.field-0 c.in_ok-new-2.field-0 c.args.nodes =
    record {
      queued = AreListed-empty slots c.in_ok-new.field-0 c.args.queues c.in_ok-slots.ensures.empty queues.lists queues.once (omega (arith, queues.nodes, c.capacity-keys.ensures.value)) (omega (arith, queues.nodes, c.if-keys.false));
      held = AreListed-empty slots c.in_ok-new-2.field-0 c.args.holders c.in_ok-slots.ensures.empty holders.lists holders.once (omega (arith, holders.nodes, c.capacity-keys.ensures.value)) (omega (arith, holders.nodes, c.if-keys.false));
      of_holders = AreOfHolders-empty slots c.in_ok-new-2.field-0.lists c.args.holders holders.lists;
      few = let none : slab_len slots ≡ 0 = ap (count_by is_some) c.in_ok-slots.ensures.empty in omega (arith, none);
      room = c.in_ok-slots.ensures.capacity;
    } in
    subst (λ s. IsSound s c.in_ok-new.field-0 c.in_ok-new-2.field-0 c.args.nodes) (sym c.slots.view_is) made
