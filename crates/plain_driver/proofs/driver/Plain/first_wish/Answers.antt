use Rattle.std.proofs.Common.{◌∙◌, ap, get_or, refl, sym, Ok}
use Rattle.std.proofs.lemmas.Result.{err_from_is_err_and}
use Rattle.driver_model.specs.declared.calls.Wish.{Wish}
use Rattle.driver_model.specs.declared.calls.Wish.TheVariants.{OutputIdle}
use Rattle.plain_driver.specs.States.{state_of}
use Rattle.plain_driver.proofs.WishSteps.{no_wish, wish_no, wish_refused, wish_yes}
use Rattle.plain_driver.proofs.driver.Plain.first_wish.Goals as goal

pub loop-place-preserved : goal.loop-place-preserved
loop-place-preserved c =
    let none : Wish = OutputIdle 0 in
    let wishes = c.args.wishes.now in
    sym (wish_no (state_of c.args.self.now) wishes c.loop-place.place (get_or wishes c.loop-place.place none) none c.loop-place-test.true refl (ap Ok (sym c.if-branch.false) ∙ c.in_ok-wish_holds.ensures)) ∙ c.loop-place.invariant

pub returns-in_err-wish_holds : goal.returns-in_err-wish_holds
returns-in_err-wish_holds c =
    let none : Wish = OutputIdle 0 in
    let wishes = c.args.wishes.now in
    let p = err_from_is_err_and c.from_residual.result c.from_residual.ensures.1 in
    rw (p.1, p.2) (sym (wish_refused (state_of c.args.self.now) wishes c.loop-place.place (get_or wishes c.loop-place.place none) none c.loop-place-test.true refl c.in_err-wish_holds.field-0.0 c.in_err-wish_holds.ensures) ∙ c.loop-place.invariant)

pub returns-then-branch : goal.returns-then-branch
returns-then-branch c =
    let none : Wish = OutputIdle 0 in
    let wishes = c.args.wishes.now in
    sym (wish_yes (state_of c.args.self.now) wishes c.loop-place.place (get_or wishes c.loop-place.place none) none c.loop-place-test.true refl (ap Ok (sym c.if-branch.true) ∙ c.in_ok-wish_holds.ensures)) ∙ c.loop-place.invariant

pub returns : goal.returns
returns c = sym (no_wish (state_of c.args.self.now) c.args.wishes.now c.loop-place.place c.loop-place-test.false) ∙ c.loop-place.invariant
