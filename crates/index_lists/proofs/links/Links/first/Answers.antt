use Rattle.std.proofs.Common.{sym, subst}
use Rattle.index_lists.specs.Lists.{IsLinked}
use Rattle.index_lists.proofs.NodeLemmas.{key-linked}
use Rattle.index_lists.proofs.Places.{place-Contains}
use Rattle.index_lists.proofs.links.Links.first.Goals as goal

pub returns-clause-linked : goal.returns-clause-linked
returns-clause-linked c =
    let present = (c.self.invariant.queued.all c.in_ok-node.node).0 (c.args.queue, place-Contains _ 0 c.in_ok-node.node (sym c.in_ok-node.ensures.first)) in
    subst (λ l. IsLinked l c.in_ok-node.node) c.self.view_is (key-linked _ _ _ _ c.self.invariant c.in_ok-node.node present)
