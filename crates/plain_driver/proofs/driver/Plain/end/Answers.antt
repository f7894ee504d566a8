use Rattle.std.proofs.Common.{◌≡◌, ◌+◌, ◌∙◌, Bool, List, ap, map, not, sym, true}
use Rattle.std.specs.List.{list_any}
use Rattle.driver_model.specs.States.{Note, State, has_note, is_note_of}
use Rattle.plain_driver.specs.States.{note_of, state_of}
use Rattle.plain_driver.specs.declared.objects.PlainNote.{PlainNote}
use Rattle.plain_driver.proofs.Changed.{list_any-map}
use Rattle.plain_driver.proofs.Noting.{filter-map}
use Rattle.plain_driver.proofs.driver.Plain.end.Goals as goal

pub returns-then-not-is_noted-clause-noted : goal.returns-then-not-is_noted-clause-noted
returns-then-not-is_noted-clause-noted c =
    let test : PlainNote → Bool = λ note. is_note_of c.args.caller.now c.args.place (note_of note) in
    sym c.if-not-is_noted.true ∙ (c.is_noted.ensures ∙ (ap (list_any test) c.deref.ensures.value ∙ sym (list_any-map note_of (is_note_of c.args.caller.now c.args.place) c.args.self.now.notes.items)))

pub returns-clause-noted : goal.returns-clause-noted
returns-clause-noted c =
    let test : PlainNote → Bool = λ note. is_note_of c.args.caller.now c.args.place (note_of note) in
    sym c.if-not-is_noted.false ∙ (c.is_noted.ensures ∙ (ap (list_any test) c.deref.ensures.value ∙ sym (list_any-map note_of (is_note_of c.args.caller.now c.args.place) c.args.self.now.notes.items)))

pub returns-clause-ended : goal.returns-clause-ended
returns-clause-ended c = λ yes.
    let s = state_of c.args.self.now in
    let test : PlainNote → Bool = λ note. is_note_of c.args.caller.now c.args.place (note_of note) in
    let there : has_note s c.args.caller.now c.args.place ≡ true = list_any-map note_of (is_note_of c.args.caller.now c.args.place) c.args.self.now.notes.items ∙ (sym (ap (list_any test) c.deref.ensures.value) ∙ (sym c.is_noted.ensures ∙ c.if-not-is_noted.false)) in
    (there, ap (λ (notes : List Note). let t : State = record { objects = s.objects; notes = notes; items = s.items + 1 } in t) (ap (map note_of) c.remove_note.ensures ∙ sym (filter-map note_of (λ (note : Note). not (is_note_of c.args.caller.now c.args.place note)) c.args.self.now.notes.items)))
