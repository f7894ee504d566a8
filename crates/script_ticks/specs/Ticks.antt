-- The ticks of a script by the numbers of their lines.
use Rattle.std.specs.Prelude.{ℕ, ◌+◌, nat_le, if◌then◌else◌, List, [], ◌∷◌, Option, Some, None}
use Rattle.std.specs.List.{AllByRecursion}
use Rattle.std.specs.Option.{option_or}
use Rattle.std.specs.Prelude.{◌<◌}
use Rattle.clock_script.specs.declared.script.ScriptLine.{ScriptLine}
use Rattle.clock_script.specs.declared.script.ScriptLine.TheVariants.{Preempt, Tick}
use Rattle.script_ticks.specs.declared.ticks.ScriptTick.{ScriptTick}

-- the tick that the line with this number is, if it is one at this time or after it
abbrev pub first_tick_at : ℕ → ℕ → ScriptLine → Option ScriptTick
first_tick_at time number (Tick ticks) = if nat_le time ticks then Some (record { line = number; time = ticks }) else None
first_tick_at time number (Preempt preempts stream) = None

-- the first tick at this time or after it, of lines of which the first has this number
unfoldable pub first_tick : ℕ → ℕ → List ScriptLine → Option ScriptTick
first_tick time number [] = None
first_tick time number (line ∷ later) = option_or (first_tick_at time number line) (first_tick time (number + 1) later)

-- the time of a tick
abbrev pub tick_time : ScriptLine → Option ℕ
tick_time (Tick time) = Some time
tick_time (Preempt time stream) = None

-- each number is less than all behind it
abbrev pub Rises : List ℕ → Type 0
Rises [] = Unit {0}
Rises (one ∷ later) = AllByRecursion (λ other. one < other) later × Rises later
