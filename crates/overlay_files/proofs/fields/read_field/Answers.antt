use Rattle.clock_script.proofs.Parts.{IsFirst}
use Rattle.overlay_files.proofs.NumberTexts.{no_ending, no_front}
use Rattle.overlay_files.proofs.fields.read_field.Goals as goal

pub returns-then-place-text : goal.returns-then-place-text
returns-then-place-text c = λ n rest small is.
    let first : IsFirst c.args.ending c.args.text.now c.find-place.result = record { within = c.find-place.ensures.within; before = c.find-place.ensures.before; there = c.find-place.ensures.there } in
    no_ending c.args.text.now rest c.args.ending c.find-place.result n c.requires small first c.if-place-text.true is

pub returns-in_default : goal.returns-in_default
returns-in_default c = λ n rest small is.
    let first : IsFirst c.args.ending c.args.text.now c.find-place.result = record { within = c.find-place.ensures.within; before = c.find-place.ensures.before; there = c.find-place.ensures.there } in
    c.in_default.ensures n small (no_front c.args.text.now rest c.args.ending c.find-place.result n c.requires small first is)
