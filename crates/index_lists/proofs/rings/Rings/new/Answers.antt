use Rattle.std.proofs.Common.{[], replicate, sym, subst}
use Rattle.index_lists.specs.Rings.{AreRings}
use Rattle.index_lists.proofs.RingLemmas.{StandOnce-rings, lists_in-rings, rings-empty}
use Rattle.index_lists.proofs.rings.Rings.new.Goals as goal

rings : (c : goal.In_ok-alone-2) → AreRings c.args.nodes c.in_ok-alone.field-0.items c.in_ok-alone-2.field-0.items (replicate c.args.lists [])
rings c = rings-empty c.args.nodes c.args.lists _ _ c.in_ok-alone.ensures.count c.in_ok-alone-2.ensures.count c.in_ok-alone.ensures.alone c.in_ok-alone-2.ensures.alone

pub invariant_of-result : goal.invariant_of-result
invariant_of-result c = subst (AreRings c.args.nodes c.in_ok-alone.field-0.items c.in_ok-alone-2.field-0.items) (sym (lists_in-rings _ _ _ _ (rings c))) (rings c)

pub returns-clause-lists : goal.returns-clause-lists
returns-clause-lists c = lists_in-rings _ _ _ _ (rings c)

pub returns-clause-once : goal.returns-clause-once
returns-clause-once c = StandOnce-rings _ _ _ _ (invariant_of-result c)
