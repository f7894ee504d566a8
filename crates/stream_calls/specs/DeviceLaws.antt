-- A stream's calls stay on one device, one call after the other.
use Rattle.std.specs.Prelude.{◌≡◌, ℕ, ◌≤◌, List, [], ◌∷◌, ◌++◌, length, Ok, Err}
use Rattle.device_lock.specs.Numbers.{Knows, items_of}
use Rattle.device_lock.specs.declared.view.View.{View}
use Rattle.vd_status.specs.declared.refusal.Refusal.TheVariants.{OutOfMemory, Preempted}
use Rattle.driver_model.specs.Histories.{IsStateOf}
use Rattle.driver_model.specs.Parts.{is_among}
use Rattle.driver_model.specs.Passes.{Adds, caller_of}
use Rattle.driver_model.specs.States.{State}
use Rattle.driver_model.specs.declared.calls.Call.TheVariants as call
use Rattle.driver_model.specs.declared.items.Item.{Item}
use Rattle.driver_model.specs.declared.items.Item.TheVariants.{Called}
use Rattle.driver_model.specs.declared.replies.Answer.TheVariants.{Done, Name}
use Rattle.player_laws.specs.Room.{MakesLittle, live_made}
use Rattle.stream_calls.specs.Counted.{renders_in}
use Rattle.stream_calls.specs.HeldNames.{HoldsNames, MayMake, held_after, held_behind}
use Rattle.stream_calls.specs.OneDevice.{StaysOnOneDevice}

-- Who has made no calls holds no names.
abbrev pub NoNamesAreHeldFirst : Type 0
NoNamesAreHeldFirst = (seen : List Item) → HoldsNames seen [] []

-- The order in which names are held, and how often, doesn't matter.
abbrev pub HeldNamesAreASet : Type 0
HeldNamesAreASet =
    (seen own : List Item) (held others : List ℕ)
    → ((name : ℕ) → is_among held name ≡ is_among others name)
    → HoldsNames seen own held
    → HoldsNames seen own others

-- What others call leaves a stream's calls on one device, and the held names held.
abbrev pub OthersKeepOneDevice : Type 0
OthersKeepOneDevice =
    (seen between own : List Item) (caller : List ℕ) (stream : ℕ) (held : List ℕ)
    → items_of caller_of caller seen ≡ own
    → StaysOnOneDevice seen own stream
    → HoldsNames seen own held
    → StaysOnOneDevice (seen ++ between) own stream × HoldsNames (seen ++ between) own held

-- No more of what the caller made lives than it holds names.
abbrev pub LiveObjectsAreHeld : Type 0
LiveObjectsAreHeld =
    (seen own : List Item) (caller : List ℕ) (held : List ℕ) (s : State)
    → IsStateOf seen s
    → items_of caller_of caller seen ≡ own
    → HoldsNames seen own held
    → live_made s own ≤ length held

-- One item more that the caller may make leaves its calls on one device, whatever others called since its last one.
abbrev pub OwnCallsKeepOneDevice : Type 0
OwnCallsKeepOneDevice =
    (before after : View Item) (item : Item) (place stream : ℕ) (held : List ℕ)
    → Knows caller_of before
    → Adds before item place after
    → StaysOnOneDevice before.seen before.own stream
    → HoldsNames before.seen before.own held
    → MayMake before.own stream held item
    → StaysOnOneDevice after.seen after.own stream × HoldsNames after.seen after.own (held_after held item)

-- Who stays on one device makes little, as long as it renders no more than 7,000,000 pictures.
abbrev pub StreamsMakeLittle : Type 0
StreamsMakeLittle =
    (seen : List Item) (s : State) (caller : List ℕ) (stream : ℕ)
    → IsStateOf seen s
    → StaysOnOneDevice seen (items_of caller_of caller seen) stream
    → renders_in (items_of caller_of caller seen) ≤ 7000000
    → MakesLittle seen s caller

-- ---- worked cases

-- a device that was made, with this name
abbrev device_5 : Item
device_5 = Called (record { caller = []; call = call.DeviceCreate; reply = Ok (Name 5) })

-- A name that is given is held, and one whose object was destroyed isn't; a refused call leaves them.
-- Who has nothing may make a device, and then no other.
pub record HeldNamesAreWorked : Type 0 where
  pub given : held_behind (5 ∷ []) (call.VideoCreate 5 0 16 16) (Ok (Name 8)) ≡ 5 ∷ 8 ∷ []
  pub lacking : held_behind (5 ∷ []) (call.VideoCreate 5 0 16 16) (Err OutOfMemory) ≡ 5 ∷ []
  pub destroyed : held_behind (5 ∷ 8 ∷ 9 ∷ []) (call.VideoDestroy 8) (Ok Done) ≡ 5 ∷ 9 ∷ []
  pub refused : held_behind (5 ∷ 8 ∷ 9 ∷ []) (call.VideoDestroy 8) (Err Preempted) ≡ 5 ∷ 8 ∷ 9 ∷ []
  pub first : MayMake [] 3 [] device_5
  pub second : MayMake (device_5 ∷ []) 3 (5 ∷ []) device_5 → ⊥
