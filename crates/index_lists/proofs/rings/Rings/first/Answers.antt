use Rattle.std.proofs.Common.{◌≡◌, ◌+◌, ◌<◌, length, get_or, sym, subst, arith}
use Rattle.std.proofs.lemmas.List.{get_or_read}
use Rattle.index_lists.specs.Lists.{list_at}
use Rattle.index_lists.specs.Rings.{lists_in}
use Rattle.index_lists.proofs.Paths.{first-path, no_first-path}
use Rattle.index_lists.proofs.rings.Rings.first.Goals as goal

pub returns-then-first-self-clause-first : goal.returns-then-first-self-clause-first
returns-then-first-self-clause-first c =
    let nodes = c.self.inside.nodes in
    let next = c.self.inside.neighbours.next.items in
    let within : c.args.list < length (lists_in nodes next) = subst (λ r. c.args.list < length r.lists) (sym c.self.view_is) c.requires in
    let read : c.index-first.result.now ≡ get_or next (nodes + c.args.list) 0 = get_or_read next (nodes + c.args.list) _ (omega (arith, c.self.invariant.nexts)) c.index-first.ensures 0 in
    rw (← c.self.view_is, read) (sym (first-path next c.self.inside.neighbours.previous.items nodes (nodes + c.args.list) (list_at (lists_in nodes next) c.args.list) (nodes + c.args.list) (omega arith) (omega (arith, c.if-first-self.true)) (c.self.invariant.ring c.args.list within)))

pub returns-else-first-self-clause-first : goal.returns-else-first-self-clause-first
returns-else-first-self-clause-first c =
    let nodes = c.self.inside.nodes in
    let next = c.self.inside.neighbours.next.items in
    let within : c.args.list < length (lists_in nodes next) = subst (λ r. c.args.list < length r.lists) (sym c.self.view_is) c.requires in
    let read : c.index-first.result.now ≡ get_or next (nodes + c.args.list) 0 = get_or_read next (nodes + c.args.list) _ (omega (arith, c.self.invariant.nexts)) c.index-first.ensures 0 in
    rw (← c.self.view_is) (sym (no_first-path next c.self.inside.neighbours.previous.items nodes (nodes + c.args.list) (list_at (lists_in nodes next) c.args.list) (nodes + c.args.list) (c.self.invariant.below c.args.list) (omega (arith, c.if-first-self.false)) (c.self.invariant.ring c.args.list within)))
