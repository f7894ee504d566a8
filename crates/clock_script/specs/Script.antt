-- What lines a script has, and in which order.
use Rattle.std.specs.Prelude.{◌≡◌, ℕ, ◌^◌, nat_lt, nat_le, ◌==◌, Bool, true, false, not, ◌&&◌, List, [], ◌∷◌, ◌++◌}
use Rattle.std.specs.List.{count_by, list_all, list_any}
use Rattle.clock_script.specs.declared.script.ScriptLine.{ScriptLine}
use Rattle.clock_script.specs.declared.script.ScriptLine.TheVariants.{Preempt, Tick}

-- when a line happens, in nanoseconds
abbrev pub time_of : ScriptLine → ℕ
time_of (Tick time) = time
time_of (Preempt time stream) = time

abbrev pub is_tick : ScriptLine → Bool
is_tick (Tick time) = true
is_tick (Preempt time stream) = false

abbrev pub is_preemption_of : ℕ → ScriptLine → Bool
is_preemption_of stream (Tick time) = false
is_preemption_of stream (Preempt time other) = other == stream

-- times are 1 to 2^63 - 1
abbrev pub is_time : ℕ → Bool
is_time time = nat_le 1 time && nat_lt time (2 ^ 63)

-- how many ticks a script may have
abbrev pub most_ticks : ℕ
most_ticks = 1000000

-- an earlier line that a tick may stand behind: a tick before it, or a preemption not after it
abbrev pub is_before_tick : ℕ → ScriptLine → Bool
is_before_tick time (Tick earlier) = nat_lt earlier time
is_before_tick time (Preempt earlier stream) = nat_le earlier time

-- what may stand behind these lines, in a script for so many streams: a tick that is later than each tick before and not earlier
-- than a preemption; a preemption that is not earlier than any line before, of a stream that wasn't preempted
abbrev pub may_follow : ℕ → List ScriptLine → ScriptLine → Bool
may_follow streams earlier (Tick time) =
    is_time time && (list_all (is_before_tick time) earlier && nat_lt (count_by is_tick earlier) most_ticks)
may_follow streams earlier (Preempt time stream) =
    is_time time && (nat_lt stream streams && (list_all (λ line. nat_le (time_of line) time) earlier && not (list_any (is_preemption_of stream) earlier)))

-- each line may stand behind those before it
unfoldable pub IsInOrder : ℕ → List ScriptLine → List ScriptLine → Type 0
IsInOrder streams earlier [] = Unit {0}
IsInOrder streams earlier (line ∷ lines) = (may_follow streams earlier line ≡ true) × IsInOrder streams (earlier ++ line ∷ []) lines

abbrev pub IsLegal : ℕ → List ScriptLine → Type 0
IsLegal streams lines = IsInOrder streams [] lines
