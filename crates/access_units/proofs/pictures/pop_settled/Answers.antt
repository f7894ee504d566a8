use Rattle.std.proofs.Common.{sym, ◌∙◌, subst}
use Rattle.output_order.specs.OutputOrder.{popping}
use Rattle.output_order.specs.Waiting.{StandsFor}
use Rattle.std.proofs.Common.{ℕ, Option}
use Rattle.access_units.proofs.PictureOrder.{fewer_if_some, later_popped, none_came}
use Rattle.access_units.proofs.pictures.pop_settled.Goals as goal

pub loop-smaller : goal.loop-smaller
loop-smaller c =
    let r = c.loop.invariant c.requires.0 c.requires.1 in
    fewer_if_some c.loop.waiting c.pop.new.self r.0 c.pop.result (sym c.is_some.ensures ∙ c.loop-test.true) r.1 (c.pop.ensures.stands r.0 r.1)

pub loop-preserved : goal.loop-preserved
loop-preserved c = λ h s.
    let r = c.loop.invariant h s in
    (popping r.0 c.pop.result, c.pop.ensures.stands r.0 r.1, later_popped h r.0 c.pop.result r.2)

pub returns : goal.returns
returns c = λ h s.
    let r = c.loop.invariant h s in
    let none = none_came c.pop.result (sym c.is_some.ensures ∙ c.loop-test.false) in
    let stands : StandsFor c.pop.new.self r.0 = subst (λ (o : Option ℕ). StandsFor c.pop.new.self (popping r.0 o)) none (c.pop.ensures.stands r.0 r.1) in
    (r.0, stands, r.2, (c.pop.ensures.none r.0 r.1).0 none)
