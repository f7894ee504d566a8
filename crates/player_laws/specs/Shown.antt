-- What a script shows of a stream's pictures of which only the first ones are known.
use Rattle.std.specs.Prelude.{◌≡◌, ◌⊎◌, ℕ, ◌+◌, ◌≤◌, nat_lt, ◌==◌, Bool, true, false, if◌then◌else◌, List, [], ◌∷◌, ◌++◌, length, map, position, Option, Some, None}
use Rattle.std.specs.List.{AllByRecursion}
use Rattle.std.specs.Option.{option_map, option_map_or}
use Rattle.clock_script.specs.Script.{IsLegal, is_preemption_of}
use Rattle.clock_script.specs.declared.script.ScriptLine.{ScriptLine}
use Rattle.script_ticks.specs.Ticks.{Rises, first_tick}
use Rattle.script_ticks.specs.declared.ticks.ScriptTick.{ScriptTick}
use Rattle.vd_plane.specs.declared.picture.Picture.{Picture}
use Rattle.driver_model.specs.ShownPictures.{ShownPicture, before_preemption, shown_at, shown_from, shown_pictures, tick_from, tick_in_time, tick_of}

module _ (script : List ScriptLine) (stream period : ℕ) where
  -- The picture of this number and this tick gives way to the next one as soon as that is there: they have one tick.
  abbrev pub gives_way : ℕ → ℕ → Bool
  gives_way number time = option_map_or (λ other. other == time) (tick_of script stream period (number + 1)) false

  module _ {P : Type 0} where
    -- what is shown of a picture behind which another one stands
    abbrev pub settled_at : ℕ → Option ℕ → P → List (ShownPicture P)
    settled_at number None picture = []
    settled_at number (Some time) picture = if gives_way number time then [] else record { picture = picture; time = time } ∷ []

    -- of pictures, which have the numbers from this one on and are followed by another one
    unfoldable pub settled_from : ℕ → List P → List (ShownPicture P)
    settled_from number [] = []
    settled_from number (picture ∷ later) = settled_at number (tick_in_time script stream period number) picture ++ settled_from (number + 1) later

-- ---- what follows

-- What is shown of pictures begins with what is settled of those that have a successor; only the last one is open.
abbrev pub FrontsAreSettled : Type 0
FrontsAreSettled =
    (script : List ScriptLine) (stream period : ℕ) (front : List Picture) (one : Picture) (more : List Picture)
    → shown_pictures script stream period (front ++ one ∷ more)
    ≡ settled_from script stream period 0 front ++ shown_from script stream period (length front) (one ∷ more)

-- The last picture is shown where nothing follows; what follows can take that back, but only where the next number has the same tick.
abbrev pub LastsAreOpen : Type 0
LastsAreOpen =
    (script : List ScriptLine) (stream period number : ℕ) (tick : Option ℕ) (picture : Picture)
    → (settled_at script stream period number tick picture ≡ shown_at script stream period number tick picture [])
    ⊎ ((settled_at script stream period number tick picture ≡ []) × (option_map_or (gives_way script stream period number) tick false ≡ true))

-- Of shown pictures each is shown later than those before it.
abbrev pub ShownTimesRise : Type 0
ShownTimesRise =
    (streams : ℕ) (script : List ScriptLine) (stream period : ℕ) (pictures : List Picture)
    → IsLegal streams script
    → Rises (map (λ (shown : ShownPicture Picture). shown.time) (shown_pictures script stream period pictures))

-- Pictures from this number on are shown at its tick or later, and not at all where it has none in time.
abbrev pub LaterPicturesShowLater : Type 0
LaterPicturesShowLater =
    (streams : ℕ) (script : List ScriptLine) (stream period number time : ℕ) (pictures : List Picture)
    → IsLegal streams script
    → tick_of script stream period number ≡ Some time
    → AllByRecursion (λ (shown : ShownPicture Picture). time ≤ shown.time) (shown_from script stream period number pictures)

abbrev pub LatePicturesAreNotShown : Type 0
LatePicturesAreNotShown =
    (script : List ScriptLine) (stream period number : ℕ) (pictures : List Picture)
    → tick_in_time script stream period number ≡ None
    → shown_from script stream period number pictures ≡ []

-- ---- ticks by their lines

-- the tick's time, if its line stands before this one
abbrev pub time_before : Option ℕ → ScriptTick → Option ℕ
time_before None tick = Some tick.time
time_before (Some line) tick = if nat_lt tick.line line then Some tick.time else None

-- the time of the tick, if there is one and its line stands before this one
abbrev pub time_in : Option ℕ → Option ScriptTick → Option ℕ
time_in line None = None
time_in line (Some tick) = time_before line tick

-- The first tick at a time or after it is that of the line that is found; it is in time where that line stands before the one that
-- preempts the stream.
abbrev pub TicksAreFound : Type 0
TicksAreFound =
    (time : ℕ) (script : List ScriptLine) → tick_from time script ≡ option_map (λ (tick : ScriptTick). tick.time) (first_tick time 0 script)

abbrev pub TicksInTimeAreFound : Type 0
TicksInTimeAreFound =
    (time stream : ℕ) (script : List ScriptLine)
    → tick_from time (before_preemption stream script) ≡ time_in (position (is_preemption_of stream) script) (first_tick time 0 script)
