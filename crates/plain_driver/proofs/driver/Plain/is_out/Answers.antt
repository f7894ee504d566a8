use Rattle.std.proofs.Common.{◌==◌, ◌∙◌, ap, sym}
use Rattle.std.specs.List.{list_any}
use Rattle.driver_model.specs.States.{Note}
use Rattle.plain_driver.specs.States.{note_of}
use Rattle.plain_driver.proofs.Changed.{list_any-map}
use Rattle.plain_driver.specs.declared.objects.PlainNote.{PlainNote}
use Rattle.plain_driver.proofs.driver.Plain.is_out.Goals as goal

pub returns : goal.returns
returns c =
    c.some_targets.ensures
    ∙ (ap (λ xs. list_any (λ (note : PlainNote). note.target == c.args.place) xs) c.deref.ensures.value
    ∙ sym (list_any-map note_of (λ (note : Note). note.target == c.args.place) c.args.self.now.notes.items))
