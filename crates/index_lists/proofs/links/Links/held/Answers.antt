use Rattle.std.proofs.Common.{sym, subst}
use Rattle.index_lists.specs.Lists.{HoldSameNodes, IsLinked}
use Rattle.index_lists.proofs.NodeLemmas.{HoldSameNodes-sound, key-linked}
use Rattle.index_lists.proofs.Places.{place-Contains}
use Rattle.index_lists.proofs.links.Links.held.Goals as goal

pub returns-in_err-node-clause-same : goal.returns-in_err-node-clause-same
returns-in_err-node-clause-same c = subst HoldSameNodes c.self.view_is (HoldSameNodes-sound _ _ _ _ c.self.invariant)

pub returns-clause-linked : goal.returns-clause-linked
returns-clause-linked c =
    let present = (c.self.invariant.held.all c.in_ok-node.node).0 (c.args.holder, place-Contains _ 0 c.in_ok-node.node (sym c.in_ok-node.ensures.first)) in
    subst (λ l. IsLinked l c.in_ok-node.node) c.self.view_is (key-linked _ _ _ _ c.self.invariant c.in_ok-node.node present)

pub returns-clause-same : goal.returns-clause-same
returns-clause-same c = subst HoldSameNodes c.self.view_is (HoldSameNodes-sound _ _ _ _ c.self.invariant)
