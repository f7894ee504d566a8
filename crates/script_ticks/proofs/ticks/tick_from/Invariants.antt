use Rattle.std.proofs.Common.{◌≡◌, drop}
use Rattle.script_ticks.specs.Ticks.{first_tick}
use Rattle.script_ticks.proofs.ticks.tick_from.Given as goal

abbrev pub invariant-loop-line : goal.invariant-loop-line
invariant-loop-line l = first_tick l.time l.from (drop l.from l.script) ≡ first_tick l.time l.line (drop l.line l.script)
