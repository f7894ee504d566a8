-- What follows of the places of a script's lines.
use Rattle.std.specs.Prelude.{◌≡◌, ℕ, ◌<◌, ◌≤◌, List, ◌++◌, drop, filter_map, length, Some, None}
use Rattle.clock_script.specs.Script.{IsLegal}
use Rattle.clock_script.specs.Texts.{IsFirstBad, longest_script}
use Rattle.clock_script.specs.declared.script.ScriptLine.{ScriptLine}
use Rattle.script_ticks.specs.Ticks.{Rises, first_tick, tick_time}
use Rattle.script_ticks.specs.declared.ticks.ScriptTick.{ScriptTick}

-- The times of a script's ticks rise.
abbrev pub TicksRise : Type 0
TicksRise = (streams : ℕ) (lines : List ScriptLine) → IsLegal streams lines → Rises (filter_map tick_time lines)

-- Where there is a tick at the later time or after it, there is one at the earlier time or after it, no later line.
abbrev pub EarlierTicksStandBefore : Type 0
EarlierTicksStandBefore =
    (time later from : ℕ) (lines : List ScriptLine) (second : ScriptTick)
    → time ≤ later
    → first_tick later from lines ≡ Some second
    → (first : ScriptTick) × (first_tick time from lines ≡ Some first) × (first.line ≤ second.line)

-- The first tick of a later time is found from the line on that was found for an earlier time, as from the beginning.
abbrev pub LaterSearchesGoOn : Type 0
LaterSearchesGoOn =
    (time later from : ℕ) (lines : List ScriptLine) (first : ScriptTick)
    → time ≤ later
    → first_tick time from (drop from lines) ≡ Some first
    → first_tick later from (drop from lines) ≡ first_tick later first.line (drop first.line lines)

-- Where nothing was found for an earlier time, there is nothing for a later one.
abbrev pub NoLaterTicks : Type 0
NoLaterTicks =
    (time later from : ℕ) (lines : List ScriptLine)
    → time ≤ later → first_tick time from lines ≡ None → first_tick later from lines ≡ None

-- A front that is longer than any script for 16 streams has the first line that no script has, whatever follows.
abbrev pub FrontsDecide : Type 0
FrontsDecide =
    (streams number : ℕ) (front more : List ℕ)
    → streams ≤ 16
    → longest_script < length front
    → IsFirstBad streams number front
    → IsFirstBad streams number (front ++ more)
