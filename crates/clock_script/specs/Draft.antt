-- What is kept of the lines that were read.
use Rattle.std.specs.Prelude.{◌≡◌, ℕ, ◌<◌, ◌≤◌, nat_le, nat_lt, ◌&&◌, List}
use Rattle.std.specs.List.{count_by, list_all}
use Rattle.clock_script.specs.Script.{is_before_tick, is_tick, most_ticks, time_of}
use Rattle.clock_script.specs.declared.script.ScriptLine.{ScriptLine}

-- the number of ticks, and the times of the last tick and of the last line, 0 where there is none: all that decides which times may
-- follow
pub record Sums (lines : List ScriptLine) (ticks last_tick last_time : ℕ) : Type 0 where
  pub counted : ticks ≡ count_by is_tick lines
  pub few : ticks ≤ most_ticks
  pub order : last_tick ≤ last_time
  pub tick : (time : ℕ) → 0 < time → list_all (is_before_tick time) lines ≡ (nat_lt last_tick time && nat_le last_time time)
  pub line : (time : ℕ) → list_all (λ line. nat_le (time_of line) time) lines ≡ nat_le last_time time
