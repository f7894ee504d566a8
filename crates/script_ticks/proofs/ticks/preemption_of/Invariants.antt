use Rattle.std.proofs.Common.{◌≡◌, ℕ, ◌<◌, false, get_or}
use Rattle.clock_script.specs.Script.{is_preemption_of}
use Rattle.clock_script.specs.declared.script.ScriptLine.{ScriptLine}
use Rattle.script_ticks.proofs.ticks.preemption_of.Given as goal

abbrev pub invariant-loop-line : goal.invariant-loop-line
invariant-loop-line l = (k : ℕ) (d : ScriptLine) → k < l.line → is_preemption_of l.stream (get_or l.script k d) ≡ false
