use Rattle.std.proofs.Common.{◌≡◌, Some, sym, ap, subst, ◌∙◌}
use Rattle.slab.specs.Slab.{get}
use Rattle.index_lists.specs.Lists.{IsLinked}
use Rattle.index_lists.proofs.NodeLemmas.{link-node, linked-key, node-held}
use Rattle.index_lists.proofs.Places.{list_within}
use Rattle.index_lists.proofs.links.Links.holder.Goals as goal

pub index-requires : goal.index-requires
index-requires c = linked-key _ _ _ _ c.self.invariant c.args.node (subst (λ l. IsLinked l c.args.node) (sym c.self.view_is) c.requires)

pub returns-clause-holder : goal.returns-clause-holder
returns-clause-holder c =
    rw (← c.self.view_is) (
    λ queue link stands is.
    let found = link-node _ _ _ _ c.self.invariant queue link stands in
    let same : Some c.index.result.now ≡ Some found.0 = sym c.index.ensures ∙ ap (get c.self.inside.nodes) (sym is) ∙ found.1 in
    let node : c.index.result.now ≡ found.0 = cc in
    ap (λ n. n.holder) node ∙ found.2
    )

pub returns-clause-held : goal.returns-clause-held
returns-clause-held c = rw (← c.self.view_is) (node-held _ _ _ _ c.self.invariant c.args.node c.index.result.now c.index.ensures)

pub returns-clause-in_range : goal.returns-clause-in_range
returns-clause-in_range c =
    rw (← c.self.view_is) (list_within c.self.inside.by_holder.lists c.index.result.now.holder c.args.node (node-held _ _ _ _ c.self.invariant c.args.node c.index.result.now c.index.ensures))
