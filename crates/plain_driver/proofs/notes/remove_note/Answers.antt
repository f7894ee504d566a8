use Rattle.std.proofs.Common.{not, rules, Bool}
use Rattle.std.proofs.lemmas.Fn.{filter_same}
use Rattle.driver_model.specs.States.{is_note_of}
use Rattle.plain_driver.specs.States.{note_of}
use Rattle.plain_driver.specs.declared.objects.PlainNote.{PlainNote}
use Rattle.plain_driver.proofs.notes.remove_note.Goals as goal

pub returns : goal.returns
returns c =
    let test : PlainNote → Bool = λ note. not (is_note_of c.args.caller.now c.args.place (note_of note)) in
    filter_same _ test _ (λ x b f' k. search rules) c.args.notes.now.items c.retain.new.self.items c.retain.ensures.filtered
