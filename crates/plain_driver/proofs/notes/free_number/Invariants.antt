use Rattle.std.proofs.Common.{◌≡◌, ◌-◌, length, map}
use Rattle.driver_model.specs.States.{free_number, free_number_from}
use Rattle.plain_driver.specs.declared.objects.PlainNote.{PlainNote}
use Rattle.plain_driver.proofs.notes.free_number.Given as goal

abbrev pub invariant-loop-number : goal.invariant-loop-number
invariant-loop-number l =
    free_number_from (map (λ (note : PlainNote). note.number) l.notes) (length (map (λ (note : PlainNote). note.number) l.notes) - l.number) l.number
    ≡ free_number (map (λ (note : PlainNote). note.number) l.notes)
