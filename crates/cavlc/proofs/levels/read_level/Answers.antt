use Rattle.std.proofs.Common.{◌+◌, ◌∙◌, ap, SFits, rules, to_z-of_z, w32}
use Rattle.cavlc.proofs.WordLemmas.{level_is, no_level}
use Rattle.cavlc.proofs.levels.read_level.Goals as goal

pub returns-in_err-word : goal.returns-in_err-word
returns-in_err-word c = rw c.from_residual.ensures (no_level c.args.state c.args.reader.now c.in_err-word.ensures)

pub returns : goal.returns
returns c =
    let fits : SFits w32 c.level_of.result = search rules in
    let same = to_z-of_z fits in
    let word = c.in_ok-word.ensures in
    rw same (level_is c.args.state c.in_ok-word.word c.level_of.result c.args.reader.now c.read_word.new.reader word.0 word.1 c.level_of.ensures.nonzero
    (c.level_of.ensures.code ∙ ap (λ x. x + c.args.state.least) c.code_of-code.ensures))
