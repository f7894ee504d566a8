use Rattle.std.proofs.Common.{◌∙◌, ap, sym, eqb}
use Rattle.std.specs.Cmp.Lexicographic.{pointwise}
use Rattle.plain_driver.specs.States.{note_of}
use Rattle.plain_driver.proofs.Noting.{is_note-true}
use Rattle.plain_driver.proofs.notes.is_note_of.Goals as goal

pub returns-then-note-place : goal.returns-then-note-place
returns-then-note-place c = c.eq.ensures ∙ (ap (pointwise eqb c.args.caller.now) c.as_slice.ensures.value ∙ sym (is_note-true c.args.caller.now c.args.place (note_of c.args.note.now) c.if-note-place.true))
