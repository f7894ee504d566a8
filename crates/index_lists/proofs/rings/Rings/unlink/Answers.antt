use Rattle.std.proofs.Common.{◌≡◌, ℕ, ◌<◌, ◌++◌, ◌∷◌, List, length, get_or, set, sym, ap, subst, ◌∙◌, arith, length-set}
use Rattle.std.proofs.lemmas.List.{get_or_read}
use Rattle.index_lists.specs.Lists.{list_at}
use Rattle.index_lists.specs.Rings.{AreRings, IsInSome, NodeLists, lists_in}
use Rattle.index_lists.specs.declared.rings.Rings.TheInside.{Inside}
use Rattle.index_lists.specs.contracts.rings.Rings.{the_view}
use Rattle.index_lists.proofs.Places.{Contains-split}
use Rattle.index_lists.proofs.RingLemmas.{after_inside, before_inside, StandOnce-rings, lists_in-rings, rings-unlinked}
use Rattle.index_lists.proofs.rings.Rings.unlink.Goals as goal

-- what the clause asks, of the fields
in_some : (inside : Inside) (now : NodeLists) (n : ℕ) → the_view inside ≡ now → IsInSome now.lists n → IsInSome (lists_in inside.nodes inside.neighbours.next.items) n
in_some inside now n is stands = subst (λ r. IsInSome r.lists n) (sym is) stands

-- each of these has its neighbours in the lists of numbers
is_node : (inside : Inside) (now : NodeLists) (n : ℕ) → the_view inside ≡ now → AreRings inside.nodes inside.neighbours.next.items inside.neighbours.previous.items (lists_in inside.nodes inside.neighbours.next.items) → IsInSome now.lists n → n < inside.nodes
is_node inside now n is rings stands = let there = in_some inside now n is stands in rings.below there.0 n there.1

pub index-before-requires : goal.index-before-requires
index-before-requires c = omega (arith, is_node c.self.inside c.args.self.now c.args.node c.self.view_is c.self.invariant c.requires, c.self.invariant.previouses)

pub index-after-requires : goal.index-after-requires
index-after-requires c = omega (arith, is_node c.self.inside c.args.self.now c.args.node c.self.view_is c.self.invariant c.requires, c.self.invariant.nexts)

pub join-requires-clause-before : goal.join-requires-clause-before
join-requires-clause-before c =
    let previous = c.self.inside.neighbours.previous.items in
    let there = in_some c.self.inside c.args.self.now c.args.node c.self.view_is c.requires in
    let below : c.args.node < c.self.inside.nodes = c.self.invariant.below there.0 c.args.node there.1 in
    let read : c.index-before.result.now ≡ get_or previous c.args.node 0 = get_or_read previous c.args.node _ (omega (arith, c.self.invariant.previouses)) c.index-before.ensures 0 in
    let split = Contains-split (list_at (lists_in c.self.inside.nodes c.self.inside.neighbours.next.items) there.0) c.args.node there.1 in
    omega (arith, read, c.self.invariant.nexts, before_inside c.self.inside.nodes _ _ _ c.self.invariant there.0 c.args.node split.0 split.1 split.2)

pub join-requires-clause-after : goal.join-requires-clause-after
join-requires-clause-after c =
    let next = c.self.inside.neighbours.next.items in
    let there = in_some c.self.inside c.args.self.now c.args.node c.self.view_is c.requires in
    let below : c.args.node < c.self.inside.nodes = c.self.invariant.below there.0 c.args.node there.1 in
    let read : c.index-after.result.now ≡ get_or next c.args.node 0 = get_or_read next c.args.node _ (omega (arith, c.self.invariant.nexts)) c.index-after.ensures 0 in
    let split = Contains-split (list_at (lists_in c.self.inside.nodes c.self.inside.neighbours.next.items) there.0) c.args.node there.1 in
    omega (arith, read, c.self.invariant.previouses, after_inside c.self.inside.nodes _ _ _ c.self.invariant there.0 c.args.node split.0 split.1 split.2)

rings : (c : goal.After-join) (i : ℕ) (us vs : List ℕ) → list_at (lists_in c.self.inside.nodes c.self.inside.neighbours.next.items) i ≡ us ++ c.args.node ∷ vs → AreRings c.self.inside.nodes c.join.new.self.next.items c.join.new.self.previous.items (set (lists_in c.self.inside.nodes c.self.inside.neighbours.next.items) i (us ++ vs))
rings c i us vs split =
    let next = c.self.inside.neighbours.next.items in
    let previous = c.self.inside.neighbours.previous.items in
    let nodes = c.self.inside.nodes in
    let lists = lists_in nodes next in
    let below : c.args.node < nodes = is_node c.self.inside c.args.self.now c.args.node c.self.view_is c.self.invariant c.requires in
    let before : c.index-before.result.now ≡ get_or previous c.args.node 0 = get_or_read previous c.args.node _ (omega (arith, c.self.invariant.previouses)) c.index-before.ensures 0 in
    let after : c.index-after.result.now ≡ get_or next c.args.node 0 = get_or_read next c.args.node _ (omega (arith, c.self.invariant.nexts)) c.index-after.ensures 0 in
    let shrunk = set lists i (us ++ vs) in
    let changed = rings-unlinked nodes next previous lists c.self.invariant i c.args.node us vs split in
    let now_next : set next (get_or previous c.args.node 0) (get_or next c.args.node 0) ≡ c.join.new.self.next.items = sym (rw (← before, ← after) c.join.ensures.next) in
    let now_previous : set previous (get_or next c.args.node 0) (get_or previous c.args.node 0) ≡ c.join.new.self.previous.items = sym (rw (← before, ← after) c.join.ensures.previous) in
    subst (λ xs. AreRings nodes c.join.new.self.next.items xs shrunk) now_previous (subst (λ xs. AreRings nodes xs (set previous (get_or next c.args.node 0) (get_or previous c.args.node 0)) shrunk) now_next changed)

pub invariant_of-self : goal.invariant_of-self
invariant_of-self c =
    let there = in_some c.self.inside c.args.self.now c.args.node c.self.view_is c.requires in
    let split = Contains-split (list_at (lists_in c.self.inside.nodes c.self.inside.neighbours.next.items) there.0) c.args.node there.1 in
    let changed = rings c there.0 split.0 split.1 split.2 in
    subst (AreRings c.self.inside.nodes c.join.new.self.next.items c.join.new.self.previous.items) (sym (lists_in-rings _ _ _ _ changed)) changed

pub returns-clause-lists : goal.returns-clause-lists
returns-clause-lists c = rw (← c.self.view_is) (λ i us vs split. lists_in-rings _ _ _ _ (rings c i us vs split))

pub returns-clause-once : goal.returns-clause-once
returns-clause-once c = StandOnce-rings _ _ _ _ (invariant_of-self c)

pub returns-clause-count : goal.returns-clause-count
returns-clause-count c =
    let there = in_some c.self.inside c.args.self.now c.args.node c.self.view_is c.requires in
    let split = Contains-split (list_at (lists_in c.self.inside.nodes c.self.inside.neighbours.next.items) there.0) c.args.node there.1 in
    rw (← c.self.view_is) (ap length (lists_in-rings _ _ _ _ (rings c there.0 split.0 split.1 split.2)) ∙ length-set _ _ _)
