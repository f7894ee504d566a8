use Rattle.std.proofs.Common.{◌∙◌, Option, [], ap, subst}
use Rattle.access_units.specs.AccessUnits.{empty_at}
use Rattle.access_units.specs.Standing.{Keeps}
use Rattle.access_units.specs.declared.hand.InHand.{InHand}
use Rattle.access_units.proofs.StandLemmas.{begins_within, keeps_broken, keeps_none_broken}
use Rattle.access_units.proofs.acceptor.Acceptor.break_off.Goals as goal

pub returns-in-Some-clause-hand : goal.returns-in-Some-clause-hand
returns-in-Some-clause-hand c = λ text hand front keeps all.
    keeps_broken c.in-Some.hand c.refuse_at_end.new.self text hand front
    (λ au holds. c.refuse_at_end.ensures.refused text au holds)
    (ap (λ (h : InHand). h.first) c.refuse_at_end.ensures.kept)
    (subst (λ (held : Option InHand). Keeps held text hand) c.in-Some.is keeps)

pub returns-clause-hand : goal.returns-clause-hand
returns-clause-hand c = λ text hand front keeps all.
    keeps_none_broken c.refuse_at_end-2.new.self text hand front
    (c.refuse_at_end-2.ensures.refused text (empty_at 0) (c.empty_at-nothing.ensures.holds text))
    (subst (λ (held : Option InHand). Keeps held text hand) c.in_default.is keeps) all

pub returns-clause-within : goal.returns-clause-within
returns-clause-within c = λ from to within zero.
    begins_within c.refuse_at_end-2.new.self from to
    (ap (λ (h : InHand). h.offset) c.refuse_at_end-2.ensures.kept ∙ (c.empty_at-nothing.ensures.holds []).offset)
    (ap (λ (h : InHand). h.slices.items) c.refuse_at_end-2.ensures.kept ∙ c.empty_at-nothing.ensures.slices)
    (zero c.in_default.is)
