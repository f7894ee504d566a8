use Rattle.std.proofs.Common.{◌∙◌, ◌<◌, length, sym, ap, arith}
use Rattle.clock_script.specs.Script.{is_preemption_of}
use Rattle.clock_script.specs.declared.script.ScriptLine.TheVariants.{Tick}
use Rattle.script_ticks.proofs.Searches.{first_place, no_place}
use Rattle.script_ticks.proofs.ticks.preemption_of.Goals as goal

pub returns-then-preempts : goal.returns-then-preempts
returns-then-preempts c =
    let inside : c.loop-line.line < length c.args.script.now = omega (arith, c.loop-line-test.true, c.len-line-end.ensures) in
    let here = ap (is_preemption_of c.args.stream) (sym c.line.ensures) ∙ (sym c.preempts.ensures ∙ c.if-preempts.true) in
    sym (first_place (is_preemption_of c.args.stream) c.args.script.now c.loop-line.line c.line.result inside (λ k less. c.loop-line.invariant k c.line.result less) here)

pub returns : goal.returns
returns c =
    sym (no_place (is_preemption_of c.args.stream) c.args.script.now (Tick 0) (λ k less.
    let before : k < c.loop-line.line = omega (arith, less, c.loop-line-test.false, c.len-line-end.ensures) in
    c.loop-line.invariant k (Tick 0) before))
