-- Which pictures of a stream a script of ticks shows, and when. Only the pictures' numbers and the ticks' times count.
use Rattle.std.specs.Prelude.{ℕ, ◌+◌, ◌*◌, nat_le, ◌==◌, Bool, false, not, if◌then◌else◌, List, [], ◌∷◌, ◌++◌, take_while, Option, Some, None}
use Rattle.std.specs.Option.{option_map_or}
use Rattle.clock_script.specs.Script.{is_preemption_of}
use Rattle.clock_script.specs.declared.script.ScriptLine.{ScriptLine}
use Rattle.clock_script.specs.declared.script.ScriptLine.TheVariants.{Preempt, Tick}

-- the time of the first tick at this time or after it
abbrev pub tick_from : ℕ → List ScriptLine → Option ℕ
tick_from time [] = None
tick_from time (Tick ticks ∷ later) = if nat_le time ticks then Some ticks else tick_from time later
tick_from time (Preempt preempts stream ∷ later) = tick_from time later

-- the lines before the stream is preempted
abbrev pub before_preemption : ℕ → List ScriptLine → List ScriptLine
before_preemption stream script = take_while (λ line. not (is_preemption_of stream line)) script

-- a picture, and the time of the tick at which it is shown
pub record ShownPicture (P : Type 0) : Type 0 where
  pub picture : P
  pub time : ℕ

module _ (script : List ScriptLine) (stream period : ℕ) where
  -- the tick of the picture of this number: pictures have their times one period behind the other
  abbrev pub tick_of : ℕ → Option ℕ
  tick_of number = tick_from ((number + 1) * period) script

  -- the same among the lines ahead of the stream's preemption
  abbrev pub tick_in_time : ℕ → Option ℕ
  tick_in_time number = tick_from ((number + 1) * period) (before_preemption stream script)

  module _ {P : Type 0} where
    -- The picture of this number and this tick is passed over where the next picture, if there is one, has the same tick.
    abbrev pub is_passed_over : ℕ → ℕ → List P → Bool
    is_passed_over number time [] = false
    is_passed_over number time (next ∷ later) = option_map_or (λ other. other == time) (tick_of (number + 1)) false

    abbrev pub shown_at : ℕ → Option ℕ → P → List P → List (ShownPicture P)
    shown_at number None picture later = []
    shown_at number (Some time) picture later =
        if is_passed_over number time later then [] else record { picture = picture; time = time } ∷ []

    -- of these pictures, which have the numbers from this one on
    unfoldable pub shown_from : ℕ → List P → List (ShownPicture P)
    shown_from number [] = []
    shown_from number (picture ∷ later) = shown_at number (tick_in_time number) picture later ++ shown_from (number + 1) later

    -- the pictures that are shown, of all pictures of the stream in output order
    abbrev pub shown_pictures : List P → List (ShownPicture P)
    shown_pictures pictures = shown_from 0 pictures
