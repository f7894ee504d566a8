use Rattle.std.proofs.Common.{arith, rules, sym, ◌∙◌, ◌≡◌, false, true}
use Rattle.clock_script.proofs.Numerals.{decimal_read, digits_are, no_number}
use Rattle.overlay_files.proofs.numbers.read_number.Goals as goal

pub returns-then-not-has_number_form : goal.returns-then-not-has_number_form
returns-then-not-has_number_form c = λ n small is.
    let off : false ≡ true → ⊥ = λ e. cc in
    no_number c.args.text.now n (λ form. off (sym c.if-not-has_number_form.true ∙ c.has_number_form.ensures.no form)) small is

pub returns-in-Some : goal.returns-in-Some
returns-in-Some c =
    let read = c.in-Some.ensures in
    (c.if-number.true, digits_are c.args.text.now c.in-Some.number (c.has_number_form.ensures.yes c.if-not-has_number_form.false) read.0 read.1 c.if-number.true)

pub returns-in_default : goal.returns-in_default
returns-in_default c = λ n small is.
    let read = c.in-Some.ensures in
    let number = decimal_read c.args.text.now n small is in
    omega (arith, read.1, number.1, small, c.if-number.false)

pub returns-in_default-2 : goal.returns-in_default-2
returns-in_default-2 c = λ n small is. search (rules, decimal_read c.args.text.now n small is)
