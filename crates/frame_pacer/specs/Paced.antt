-- What a pacer answers of the pictures of a stream that come out one after the other.
use Rattle.std.specs.Prelude.{◌≡◌, ℕ, zero, suc, ◌+◌, ◌*◌, ◌-◌, ◌^◌, ◌<◌, ◌==◌, false, if◌then◌else◌, List, [], ◌∷◌, position, Option, Some, None}
use Rattle.std.specs.Option.{option_map_or, unwrap_or}
use Rattle.clock_script.specs.Script.{IsLegal, is_preemption_of}
use Rattle.clock_script.specs.declared.script.ScriptLine.{ScriptLine}
use Rattle.script_ticks.specs.Ticks.{first_tick}
use Rattle.script_ticks.specs.declared.ticks.ScriptTick.{ScriptTick}
use Rattle.vd_plane.specs.declared.picture.Picture.{Picture}
use Rattle.driver_model.specs.ShownPictures.{ShownPicture, shown_at, tick_in_time}
use Rattle.player_laws.specs.Shown.{settled_at}
use Rattle.frame_pacer.specs.declared.pacer.Pacer.{Pacer}

-- the tick of the last one, where so many pictures came out: the first one at its time or after it
abbrev pub last_tick : List ScriptLine → (period : ℕ) → ℕ → Option ScriptTick
last_tick script period zero = None
last_tick script period (suc number) = first_tick ((number + 1) * period) 0 script

-- The pacer is that of this script, stream and period, and so many pictures came out.
pub record IsPaced (pacer : Pacer) (script : List ScriptLine) (stream period count : ℕ) : Type 0 where
  pub of_script : pacer.script ≡ script
  pub of_period : pacer.period ≡ period
  pub preempted : pacer.preemption ≡ position (is_preemption_of stream) script
  pub counted : pacer.count ≡ count
  pub tick : pacer.tick ≡ last_tick script period count

-- The script is one for some number of streams, and fewer than 2^32 pictures came out.
pub record MayGoOn (pacer : Pacer) : Type 0 where
  pub streams : ℕ
  pub script : List ScriptLine
  pub stream : ℕ
  pub period : ℕ
  pub count : ℕ
  pub paced : IsPaced pacer script stream period count
  pub legal : IsLegal streams script
  pub few : count < 2 ^ 32

-- when the last picture is shown, if it is at this time where nothing follows and the next one has this tick
abbrev pub settled_time : Option ℕ → Option ScriptTick → Option ℕ
settled_time None next = None
settled_time (Some time) next = if option_map_or (λ (tick : ScriptTick). tick.time == time) next false then None else Some time

-- the picture at this time, or nothing
abbrev pub shown_if : Option ℕ → Picture → List (ShownPicture Picture)
shown_if None picture = []
shown_if (Some time) picture = record { picture = picture; time = time } ∷ []

-- This is the time at which the last of so many pictures is shown, now that another one has followed it; None if it isn't shown.
abbrev pub IsSettled : List ScriptLine → (stream period count : ℕ) → Option ℕ → Type 0
IsSettled script stream period zero time = time ≡ None
IsSettled script stream period (suc number) time =
    (picture : Picture) → settled_at script stream period number (tick_in_time script stream period number) picture ≡ shown_if time picture

-- This is the time at which the last of so many pictures is shown, where none follows it.
abbrev pub IsLast : List ScriptLine → (stream period count : ℕ) → Option ℕ → Type 0
IsLast script stream period zero time = time ≡ None
IsLast script stream period (suc number) time =
    (picture : Picture) → shown_at script stream period number (tick_in_time script stream period number) picture [] ≡ shown_if time picture

-- the greatest time there is, which no tick has
abbrev pub no_time : ℕ
no_time = 2 ^ 64 - 1

-- the time before which nothing is shown but what was settled: the tick of the last picture
abbrev pub promised : List ScriptLine → (stream period count : ℕ) → ℕ
promised script stream period zero = 0
promised script stream period (suc number) = unwrap_or (tick_in_time script stream period number) no_time
