use Rattle.std.proofs.Common.{◌≡◌, Some, sym, ap, subst, ◌∙◌}
use Rattle.slab.specs.Slab.{get}
use Rattle.index_lists.specs.Lists.{IsLinked}
use Rattle.index_lists.proofs.NodeLemmas.{link-node, linked-key}
use Rattle.index_lists.proofs.links.Links.value.Goals as goal

pub index-requires : goal.index-requires
index-requires c = linked-key _ _ _ _ c.self.invariant c.args.node (subst (λ l. IsLinked l c.args.node) (sym c.self.view_is) c.requires)

pub returns : goal.returns
returns c =
    rw (← c.self.view_is) (
    λ queue link stands is.
    let found = link-node _ _ _ _ c.self.invariant queue link stands in
    let same : Some c.index.result.now ≡ Some found.0 = sym c.index.ensures ∙ ap (get c.self.inside.nodes) (sym is) ∙ found.1 in
    let node : c.index.result.now ≡ found.0 = cc in
    ap (λ n. n.value) node ∙ found.3
    )
