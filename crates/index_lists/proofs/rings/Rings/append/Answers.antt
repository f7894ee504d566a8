use Rattle.std.proofs.Common.{◌≡◌, ℕ, ◌+◌, ◌<◌, ◌++◌, ◌∷◌, [], length, get_or, set, sym, ap, subst, ◌∙◌, arith}
use Rattle.std.proofs.lemmas.List.{get_or_read}
use Rattle.index_lists.specs.Lists.{list_at}
use Rattle.index_lists.specs.Rings.{AreRings, IsInSome, NodeLists, lists_in}
use Rattle.index_lists.specs.declared.rings.Rings.TheInside.{Inside}
use Rattle.index_lists.specs.contracts.rings.Rings.{the_view}
use Rattle.index_lists.proofs.RingLemmas.{CanAppend, last_inside, StandOnce-rings, lists_in-rings, rings-appended}
use Rattle.index_lists.proofs.rings.Rings.append.Goals as goal

-- what the clauses ask, of the fields
can_append : (inside : Inside) (now : NodeLists) (i n : ℕ) → the_view inside ≡ now → i < length now.lists → n < now.nodes → ¬ IsInSome now.lists n → length (list_at now.lists i) < now.nodes → CanAppend inside.nodes (lists_in inside.nodes inside.neighbours.next.items) i n
can_append inside now i n is within is_node unlinked short =
    record {
      within = subst (λ r. i < length r.lists) (sym is) within;
      is_node = subst (λ r. n < r.nodes) (sym is) is_node;
      unlinked = subst (λ r. ¬ IsInSome r.lists n) (sym is) unlinked;
      short = subst (λ r. length (list_at r.lists i) < r.nodes) (sym is) short;
    }

pub join-requires-clause-before : goal.join-requires-clause-before
join-requires-clause-before c =
    let next = c.self.inside.neighbours.next.items in
    let previous = c.self.inside.neighbours.previous.items in
    let end = c.self.inside.nodes + c.args.list in
    let can = can_append c.self.inside c.args.self.now c.args.list c.args.node c.self.view_is c.requires.list c.requires.node c.requires.unlinked c.requires.short in
    let last : c.index-last.result.now ≡ get_or previous end 0 = get_or_read previous end _ (omega (arith, c.self.invariant.previouses, can.within)) c.index-last.ensures 0 in
    omega (arith, last, c.self.invariant.nexts, last_inside c.self.inside.nodes next previous (lists_in c.self.inside.nodes next) c.self.invariant c.args.list c.args.node can)

rings : (c : goal.After-join-2) → AreRings c.self.inside.nodes c.join-2.new.self.next.items c.join-2.new.self.previous.items (set (lists_in c.self.inside.nodes c.self.inside.neighbours.next.items) c.args.list (list_at (lists_in c.self.inside.nodes c.self.inside.neighbours.next.items) c.args.list ++ c.args.node ∷ []))
rings c =
    let next = c.self.inside.neighbours.next.items in
    let previous = c.self.inside.neighbours.previous.items in
    let nodes = c.self.inside.nodes in
    let end = nodes + c.args.list in
    let lists = lists_in nodes next in
    let can = can_append c.self.inside c.args.self.now c.args.list c.args.node c.self.view_is c.requires.list c.requires.node c.requires.unlinked c.requires.short in
    let last : c.index-last.result.now ≡ get_or previous end 0 = get_or_read previous end _ (omega (arith, c.self.invariant.previouses, can.within)) c.index-last.ensures 0 in
    let grown = set lists c.args.list (list_at lists c.args.list ++ c.args.node ∷ []) in
    let changed = rings-appended nodes next previous lists c.self.invariant c.args.list c.args.node can in
    let nexts : set (set next (get_or previous end 0) c.args.node) c.args.node end ≡ c.join-2.new.self.next.items =
    sym (c.join-2.ensures.next ∙ ap (λ xs. set xs c.args.node end) (c.join.ensures.next ∙ ap (λ n. set next n c.args.node) last)) in
    let previouses : set (set previous c.args.node (get_or previous end 0)) end c.args.node ≡ c.join-2.new.self.previous.items =
    sym (c.join-2.ensures.previous ∙ ap (λ xs. set xs end c.args.node) (c.join.ensures.previous ∙ ap (λ n. set previous c.args.node n) last)) in
    subst (λ xs. AreRings nodes c.join-2.new.self.next.items xs grown) previouses (subst (λ xs. AreRings nodes xs (set (set previous c.args.node (get_or previous end 0)) end c.args.node) grown) nexts changed)

pub invariant_of-self : goal.invariant_of-self
invariant_of-self c = subst (AreRings c.self.inside.nodes c.join-2.new.self.next.items c.join-2.new.self.previous.items) (sym (lists_in-rings _ _ _ _ (rings c))) (rings c)

pub returns-clause-lists : goal.returns-clause-lists
returns-clause-lists c = rw (← c.self.view_is) (lists_in-rings _ _ _ _ (rings c))

pub returns-clause-once : goal.returns-clause-once
returns-clause-once c = StandOnce-rings _ _ _ _ (invariant_of-self c)
