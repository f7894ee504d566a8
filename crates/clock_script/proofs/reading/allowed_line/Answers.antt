use Rattle.std.proofs.Common.{arith, false, true, subst, sym, ◌∙◌, ◌≡◌}
use Rattle.clock_script.specs.Script.{may_follow}
use Rattle.clock_script.specs.declared.script.ScriptLine.{ScriptLine}
use Rattle.clock_script.proofs.LineTexts.{in_range, one_line}
use Rattle.clock_script.proofs.reading.allowed_line.Goals as goal

pub returns-else-allows : goal.returns-else-allows
returns-else-allows c = λ line may is.
    let read = c.in_ok-line.ensures in
    let same : c.in_ok-line.line ≡ line = one_line c.in_ok-line.line line read.0 (in_range c.args.streams c.args.draft.now line (omega (arith, c.ranges.streams.fits)) may) (sym read.1 ∙ is) in
    let allowed : may_follow c.args.streams c.args.draft.now c.in_ok-line.line ≡ true = subst (λ (l : ScriptLine). may_follow c.args.streams c.args.draft.now l ≡ true) (sym same) may in
    let off : true ≡ false → ⊥ = λ e. cc in
    off (sym allowed ∙ (sym c.allows.ensures ∙ c.if-allows.false))
