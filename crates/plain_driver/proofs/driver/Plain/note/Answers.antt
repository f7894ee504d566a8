use Rattle.std.proofs.Common.{ℕ, List, ◌∙◌, ap, map}
use Rattle.driver_model.specs.States.{free_number}
use Rattle.plain_driver.specs.declared.objects.PlainNote.{PlainNote}
use Rattle.plain_driver.proofs.Noting.{note_added}
use Rattle.plain_driver.proofs.driver.Plain.note.Goals as goal

pub returns-clause-ok : goal.returns-clause-ok
returns-clause-ok c =
    let number : PlainNote → ℕ = λ note. note.number in
    note_added c.args.self.now c.args.caller.now c.args.target c.args.outcome c.in_ok-caller.caller c.free_number-number.result c.push.new.self.items c.in_ok-caller.ensures.items
    (c.free_number-number.ensures ∙ ap (λ (notes : List PlainNote). free_number (map number notes)) c.deref.ensures.value) c.in_ok-push.ensures.items
