-- Displays and ticks: which flips the ticks of a device make of a queue on which displays are made for ticks of a clock, each in time.
use Rattle.std.specs.Prelude.{◌≡◌, ℕ, ◌<◌, ◌==◌, Bool, true, false, not, ◌&&◌, if◌then◌else◌, List, [], ◌∷◌, ◌++◌, filter, filter_map, flat_map, map, Option, Some, None}
use Rattle.std.specs.List.{AllByRecursion, list_any}
use Rattle.std.specs.Option.{option_map_or}
use Rattle.std.specs.Result.{is_ok}
use Rattle.cb_types.specs.SizeMbs.{luma_height, luma_width}
use Rattle.script_ticks.specs.Ticks.{Rises}
use Rattle.driver_model.specs.Answers.{Reply}
use Rattle.driver_model.specs.FlipText.{flips_in}
use Rattle.driver_model.specs.Histories.{Happens, IsStateOf}
use Rattle.driver_model.specs.Objects.{OutputSurface, PresentationQueue, as_output, as_queue}
use Rattle.driver_model.specs.Parts.{is_first, name_given}
use Rattle.driver_model.specs.Presented.{is_idle_at}
use Rattle.driver_model.specs.States.{State, Found, empty_state, name_at, named}
use Rattle.driver_model.specs.declared.calls.Call.{Call}
use Rattle.driver_model.specs.declared.calls.Call.TheVariants as call
use Rattle.driver_model.specs.declared.items.Entry.{Entry}
use Rattle.driver_model.specs.declared.items.Item.{Item}
use Rattle.driver_model.specs.declared.items.Item.TheVariants.{Called, Ended}
use Rattle.driver_model.specs.declared.replies.Flipped.{Flipped}

-- ---- ticks

-- the time of a tick of the device, if the call is one that was made
abbrev pub tick_in : ℕ → Call → Reply → Option ℕ
tick_in device (call.Advance on time) reply = if is_ok reply && on == device then Some time else None
tick_in device _ reply = None

abbrev pub tick_made : ℕ → Item → Option ℕ
tick_made device (Called entry) = tick_in device entry.call entry.reply
tick_made device (Ended mark) = None

-- the times of the device's ticks
abbrev pub ticks_made : ℕ → List Item → List ℕ
ticks_made device history = filter_map (tick_made device) history

-- ---- displays

-- the flip that a display asks for, of a surface that has this
abbrev pub flip_asked : (queue window surface time : ℕ) → OutputSurface → Flipped
flip_asked queue window surface time of = record {
  queue = queue;
  window = window;
  surface = surface;
  time = time;
  width = luma_width of.size;
  height = luma_height of.size;
  format = of.format;
  bytes = of.bytes;
}

-- the window of the queue with this name
abbrev pub window_of : State → ℕ → ℕ
window_of s queue = option_map_or (λ (on : Found PresentationQueue). on.value.window) (named s as_queue queue) 0

abbrev pub flips_asked : State → (queue surface time : ℕ) → List Flipped
flips_asked s queue surface time =
    option_map_or (λ (on : Found OutputSurface). flip_asked queue (window_of s queue) surface time on.value ∷ []) (named s as_output surface) []

-- What a display on the queue asks for that is made: a flip at its time, of what the surface has in the state before it.
abbrev pub asked_in : State → ℕ → Call → Reply → List Flipped
asked_in s queue (call.QueueDisplay on surface earliest) reply = if is_ok reply && on == queue then flips_asked s queue surface earliest else []
asked_in s queue _ reply = []

abbrev pub asked_by : State → ℕ → Item → List Flipped
asked_by s queue (Called entry) = asked_in s queue entry.call entry.reply
asked_by s queue (Ended mark) = []

-- the flips that the displays on the queue ask for, from this state on
unfoldable pub AreAsked : ℕ → State → List Item → List Flipped → Type 0
AreAsked queue s [] asked = asked ≡ []
AreAsked queue s (item ∷ later) asked =
    (between : State)
    × Happens s item between
    × (others : List Flipped)
    × AreAsked queue between later others
    × (asked ≡ asked_by s queue item ++ others)

-- ---- a queue on which displays are made in time

-- The entry stands in the history, and was made in this state.
pub record IsMadeIn (history : List Item) (s : State) (entry : Entry) : Type 0 where
  pub front : List Item
  pub later : List Item
  pub splits : history ≡ front ++ Called entry ∷ later
  pub state : IsStateOf front s

-- The queue is there, and nothing will be displayed on it up to this time.
pub record IsPromisedPast (s : State) (queue time : ℕ) : Type 0 where
  pub on : Found PresentationQueue
  pub stands : named s as_queue queue ≡ Some on
  pub past : time < on.value.queue.promise

-- some number of the list is this one
abbrev pub is_of : List ℕ → ℕ → Bool
is_of times time = list_any (λ other. other == time) times

-- A queue of a device, on which these flips are asked for, and a clock by which the device ticks.
pub record KeepsTime (history : List Item) (device queue : ℕ) (clock : List ℕ) (asked : List Flipped) : Type 0 where
  -- The call that made the queue named the device first. Neither of both is destroyed.
  pub on_device : (s : State) (entry : Entry) → IsMadeIn history s entry → name_given entry.reply ≡ Some queue → is_first device entry.call ≡ true
  pub queue_stays : (s : State) (entry : Entry) → IsMadeIn history s entry → entry.call ≡ call.QueueDestroy queue → is_ok entry.reply ≡ false
  pub device_stays : (s : State) (entry : Entry) → IsMadeIn history s entry → entry.call ≡ call.DeviceDestroy device → is_ok entry.reply ≡ false
  -- The clock's times rise, and the device's ticks are the first ones of it.
  pub rises : Rises clock
  pub later : List ℕ
  pub ticks : clock ≡ ticks_made device history ++ later
  -- Each display is made for a time of the clock, and for a later one than those before.
  pub for_ticks : AllByRecursion (λ (flip : Flipped). is_of clock flip.time ≡ true) asked
  pub displays_rise : Rises (map (λ (flip : Flipped). flip.time) asked)
  -- Each tick of the device comes behind a promise past it.
  pub promised : (s : State) (entry : Entry) (time : ℕ) → IsMadeIn history s entry → tick_in device entry.call entry.reply ≡ Some time → IsPromisedPast s queue time
  -- No pixels are put, and none are mixed into a surface that isn't idle.
  pub no_puts : (s : State) (entry : Entry) (surface : ℕ) (bytes : List ℕ) → IsMadeIn history s entry → entry.call ≡ call.OutputPutBits surface bytes → is_ok entry.reply ≡ false
  pub idle : (s : State) (entry : Entry) (mixer structure video output : ℕ) (on : Found OutputSurface)
      → IsMadeIn history s entry
      → entry.call ≡ call.Mix mixer structure video output
      → is_ok entry.reply ≡ true
      → named s as_output output ≡ Some on
      → is_idle_at s on.place ≡ true

-- ---- what follows

-- the flips on the queue
abbrev pub is_on : ℕ → Flipped → Bool
is_on queue flip = flip.queue == queue

abbrev pub flips_on : ℕ → List Item → List Flipped
flips_on queue history = filter (is_on queue) (flat_map flips_in history)

-- a flip that was asked for, if its time was ticked
abbrev pub was_ticked : List ℕ → Flipped → Bool
was_ticked ticks flip = is_of ticks flip.time

-- what is told of a queue's entries: the surfaces' names, and the times
abbrev pub entries_told : State → Found PresentationQueue → List (ℕ × ℕ)
entries_told s on = map (λ entry. (name_at s entry.surface, entry.earliest)) on.value.queue.entries

abbrev pub times_asked : List Flipped → List (ℕ × ℕ)
times_asked flips = map (λ (flip : Flipped). (flip.surface, flip.time)) flips

-- The flips on the queue are, in order, those asked for whose time was ticked; and its entries are the others.
pub record ShowsWhatIsAsked (history : List Item) (s : State) (device queue : ℕ) (asked : List Flipped) : Type 0 where
  pub flips : flips_on queue history ≡ filter (was_ticked (ticks_made device history)) asked
  pub entries : (on : Found PresentationQueue)
      → named s as_queue queue ≡ Some on
      → entries_told s on ≡ times_asked (filter (λ flip. not (was_ticked (ticks_made device history) flip)) asked)

abbrev pub DisplaysAreFlipped : Type 0
DisplaysAreFlipped =
    (history : List Item) (s : State) (device queue : ℕ) (clock : List ℕ) (asked : List Flipped)
    → IsStateOf history s
    → AreAsked queue empty_state history asked
    → KeepsTime history device queue clock asked
    → ShowsWhatIsAsked history s device queue asked
