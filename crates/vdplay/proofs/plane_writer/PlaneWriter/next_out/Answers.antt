use Rattle.std.proofs.Common.{◌≡◌, ◌∙◌, ℕ, Option, rules, arith, sym, subst}
use Rattle.std.specs.List.{position}
use Rattle.std.proofs.Common.{tests}
use Rattle.std.proofs.lemmas.Iterator.{YieldsList-from_slice}
use Rattle.std.proofs.lemmas.Iterator.Search.{position_from_yields_List}
use Rattle.output_order.specs.OutputOrder.{popping}
use Rattle.output_order.specs.Waiting.{StandsFor}
use Rattle.vdplay.specs.Reports.{has_number}
use Rattle.vdplay.proofs.HoldLemmas.{is_held, is_out}
use Rattle.vdplay.proofs.Texts.{if_none_any}
use Rattle.vdplay.proofs.plane_writer.PlaneWriter.next_out.Goals as goal

pub returns-in_err-number-clause-none : goal.returns-in_err-number-clause-none
returns-in_err-number-clause-none c = if_none_any c.from_residual.result _ (λ decoded h holds.
    let P : Option ℕ → Type 0 = λ o. StandsFor c.pop.new.self (popping h o) in (
      (c.pop.ensures.none h holds.waiting).0 c.in_err-number.was,
      record { waiting = subst P c.in_err-number.was (c.pop.ensures.stands h holds.waiting); pushed = holds.pushed; out = holds.out; counts = holds.counts; samples = holds.samples },
    ))

pub returns-in_err-place-clause-none : goal.returns-in_err-place-clause-none
returns-in_err-place-clause-none c = if_none_any c.from_residual-in_err-place.result _ (λ decoded h holds.
    let found : c.position.result ≡ position (has_number c.in_ok-number.number) c.args.self.now.held.items =
    position_from_yields_List (has_number c.in_ok-number.number) _ _ c.position.result c.position.ensures.ran (YieldsList-from_slice c.args.self.now.held.items cc) (λ x b q k. search (rules, tests)) in
    absurd (is_held c.args.self.now decoded h c.pop.new.self c.in_ok-number.number holds (c.in_ok-number.ensures.stands h holds.waiting) (sym found ∙ c.in_err-place.was)))

pub returns-clause-next : goal.returns-clause-next
returns-clause-next c = λ decoded h holds.
    let found : c.position.result ≡ position (has_number c.in_ok-number.number) c.args.self.now.held.items =
    position_from_yields_List (has_number c.in_ok-number.number) _ _ c.position.result c.position.ensures.ran (YieldsList-from_slice c.args.self.now.held.items cc) (λ x b q k. search (rules, tests)) in
    is_out c.args.self.now _ decoded h c.in_ok-number.number c.in_ok-place.place c.remove-samples.result holds (c.in_ok-number.ensures.stands h holds.waiting) (c.in_ok-number.ensures.next h holds.waiting)
    (sym found ∙ c.in_ok-place.was) c.remove-samples.ensures.value c.remove-samples.ensures.items

pub returns-clause-fewer : goal.returns-clause-fewer
returns-clause-fewer c = omega (arith, c.remove-samples.ensures.len)
