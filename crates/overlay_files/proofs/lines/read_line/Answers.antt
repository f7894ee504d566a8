use Rattle.std.proofs.Common.{rules, ◌≡◌, ℕ, ◌++◌, List, refl, sym, subst, ◌∙◌}
use Rattle.std.specs.Prelude.{codes}
use Rattle.std.proofs.lemmas.List.{take_rest}
use Rattle.overlay_files.specs.Cues.{IsName}
use Rattle.overlay_files.specs.Schedules.{numbers_of}
use Rattle.overlay_files.proofs.CueTexts.{operands_of, read_parts, small_numbers}
use Rattle.overlay_files.proofs.lines.read_line.Goals as goal

pub returns-in_default-read_numbers : goal.returns-in_default-read_numbers
returns-in_default-read_numbers c = λ cue may is.
    let operands : List ℕ = c.in-Some.operands.now in
    let text_is : c.args.text.now ≡ codes "show " ++ operands = search rules in
    c.in_default-read_numbers.ensures (numbers_of cue.showing) cue.name refl (small_numbers cue.showing may.1.showing) (operands_of c.args.text.now operands cue text_is is)

pub returns-in_default-showing_of : goal.returns-in_default-showing_of
returns-in_default-showing_of c = λ cue may is.
    let operands : List ℕ = c.in-Some.operands.now in
    let text_is : c.args.text.now ≡ codes "show " ++ operands = search rules in
    let r = c.in-Some-read_numbers in
    let parts = read_parts c.args.text.now operands r.numbers.values r.numbers.end cue text_is r.ensures.0 r.ensures.1 may.1.showing is in
    c.in_default-showing_of.ensures cue.showing may.1.showing parts.0

pub returns-in_default-read_name : goal.returns-in_default-read_name
returns-in_default-read_name c = λ cue may is.
    let operands : List ℕ = c.in-Some.operands.now in
    let text_is : c.args.text.now ≡ codes "show " ++ operands = search rules in
    let r = c.in-Some-read_numbers in
    let parts = read_parts c.args.text.now operands r.numbers.values r.numbers.end cue text_is r.ensures.0 r.ensures.1 may.1.showing is in
    c.in_default-read_name.ensures (subst IsName (sym (take_rest operands r.numbers.end ∙ parts.1)) may.1.name)
