use Rattle.std.proofs.Common.{◌≡◌, true, false, Ok, sym, ap, ◌∙◌, arith}
use Rattle.driver_core.proofs.Wishing.{behind, first_by, first_none}
use Rattle.driver_core.proofs.driver.Core.first_wish.Goals as goal

pub returns-in-Ok-true : goal.returns-in-Ok-true
returns-in-Ok-true c d stands =
    let wishes = c.args.wishes.now in
    let holds : c.wish_holds.result ≡ Ok true = c.in-Ok-true.is ∙ ap Ok c.in-Ok-true.field-0-test in
    sym (c.loop-place.invariant d stands ∙ (first_by d wishes c.loop-place.place _ c.loop-place-test.true c.wish_holds.result (c.wish_holds.ensures d stands) ∙ ap (behind d wishes c.loop-place.place) holds))

pub returns-in-Err : goal.returns-in-Err
returns-in-Err c d stands =
    let wishes = c.args.wishes.now in
    sym (c.loop-place.invariant d stands ∙ (first_by d wishes c.loop-place.place _ c.loop-place-test.true c.wish_holds.result (c.wish_holds.ensures d stands) ∙ ap (behind d wishes c.loop-place.place) c.in-Err.is))

pub loop-place-preserved : goal.loop-place-preserved
loop-place-preserved c d stands =
    let wishes = c.args.wishes.now in
    let holds : c.wish_holds.result ≡ Ok false = c.in-Ok-false.is ∙ ap Ok c.in-Ok-false.field-0-test in
    c.loop-place.invariant d stands ∙ (first_by d wishes c.loop-place.place _ c.loop-place-test.true c.wish_holds.result (c.wish_holds.ensures d stands) ∙ ap (behind d wishes c.loop-place.place) holds)

pub returns : goal.returns
returns c d stands = sym (c.loop-place.invariant d stands ∙ first_none d c.args.wishes.now c.loop-place.place (let past = c.loop-place-test.false in omega (arith, past)))
