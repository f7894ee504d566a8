use Rattle.std.proofs.Common.{ℕ, ◌≡◌, ◌==◌, ◌∙◌, arith, length, map, sym, true, false}
use Rattle.std.specs.List.{list_any}
use Rattle.std.proofs.lemmas.List.{length-map}
use Rattle.plain_driver.specs.declared.objects.PlainNote.{PlainNote}
use Rattle.plain_driver.proofs.Changed.{list_any-map}
use Rattle.plain_driver.proofs.Noting.{free_end, free_found, free_taken}
use Rattle.plain_driver.proofs.notes.free_number.Goals as goal

pub loop-number-preserved : goal.loop-number-preserved
loop-number-preserved c =
    let number : PlainNote → ℕ = λ note. note.number in
    let numbers = map number c.args.notes.now in
    let i = c.loop-number.number in
    let taken : list_any (λ n. n == i) numbers ≡ true = list_any-map number (λ n. n == i) c.args.notes.now ∙ (sym c.has_number.ensures ∙ c.if-not-has_number.false) in
    sym (free_taken numbers (length numbers) i (omega (arith, c.loop-number-test.true, length-map c.args.notes.now number)) taken) ∙ c.loop-number.invariant

pub returns-then-not-has_number : goal.returns-then-not-has_number
returns-then-not-has_number c =
    let number : PlainNote → ℕ = λ note. note.number in
    let numbers = map number c.args.notes.now in
    let i = c.loop-number.number in
    let free : list_any (λ n. n == i) numbers ≡ false = list_any-map number (λ n. n == i) c.args.notes.now ∙ (sym c.has_number.ensures ∙ c.if-not-has_number.true) in
    sym (free_found numbers (length numbers) i (omega (arith, c.loop-number-test.true, length-map c.args.notes.now number)) free) ∙ c.loop-number.invariant

pub returns : goal.returns
returns c =
    let number : PlainNote → ℕ = λ note. note.number in
    let numbers = map number c.args.notes.now in
    let i = c.loop-number.number in
    let all : length c.args.notes.now ≡ i = omega (arith, c.loop-number-test.false, c.loop-number.auto.number-end) in
    all ∙ (sym (free_end numbers (length numbers) i (omega (arith, c.loop-number-test.false, length-map c.args.notes.now number))) ∙ c.loop-number.invariant)
