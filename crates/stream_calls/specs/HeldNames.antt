-- Which names a stream's caller holds, and what it may ask for with them.
use Rattle.std.specs.Prelude.{◌≡◌, ◌≢◌, ℕ, ◌+◌, ◌*◌, ◌==◌, ◌≤◌, true, false, not, List, [], ◌∷◌, ◌++◌, length, filter, filter_map, count_by, Some, None, Ok, Err}
use Rattle.driver_model.specs.Answers.{Reply}
use Rattle.driver_model.specs.Histories.{IsStateOf}
use Rattle.driver_model.specs.Parts.{first_name, given_by, is_among, names_in, names_of}
use Rattle.driver_model.specs.States.{State}
use Rattle.driver_model.specs.declared.calls.Call.{Call}
use Rattle.driver_model.specs.declared.calls.Call.TheVariants as call
use Rattle.driver_model.specs.declared.items.Entry.{Entry}
use Rattle.driver_model.specs.declared.items.Item.{Item}
use Rattle.driver_model.specs.declared.items.Item.TheVariants.{Called, Ended}
use Rattle.driver_model.specs.declared.replies.Answer.TheVariants.{Name}
use Rattle.player_laws.specs.Room.{given_in, is_live_name}
use Rattle.stream_calls.specs.Counted.{device_of, has_done, is_counted, is_device_create, is_queue_create, renders_in}
use Rattle.stream_calls.specs.OneDevice.{is_left_out}

-- The caller, whose own items these are in the history that it has seen, holds these names.
pub record HoldsNames (seen own : List Item) (held : List ℕ) : Type 0 where
  -- Each object that it made and that lives has one of them.
  pub living : (s : State) (name : ℕ)
      → IsStateOf seen s
      → is_among (filter_map given_by own) name ≡ true
      → is_live_name s name ≡ true
      → is_among held name ≡ true
  -- All of them are of the device that it made,
  pub on_device : (device name : ℕ)
      → device_of own ≡ Some device
      → is_among held name ≡ true
      → is_among (names_of seen device) name ≡ true
  -- and before it has made one there are none.
  pub none : device_of own ≡ None → held ≡ []

-- What such a caller may ask for: a device, if it has none; or what names something, and only what it holds.
pub record MayCall (own : List Item) (stream : ℕ) (held : List ℕ) (asked : Call) : Type 0 where
  pub one_device : is_device_create asked ≡ true → device_of own ≡ None
  pub some : is_device_create asked ≡ false → first_name asked ≢ None
  pub all : (name : ℕ) → is_among (names_in asked) name ≡ true → is_among held name ≡ true
  -- one queue, whose window has the stream's number
  pub one_queue : is_queue_create asked ≡ true → count_by (has_done is_queue_create) own ≡ 0
  pub window : (device window : ℕ) → asked ≡ call.QueueCreate device window → window ≡ stream
  pub left_out : is_left_out asked ≡ false

-- The item may be its next one: an entry of such a call, or the end of a job.
pub record MayMake (own : List Item) (stream : ℕ) (held : List ℕ) (item : Item) : Type 0 where
  pub may_call : (entry : Entry) → item ≡ Called entry → MayCall own stream held entry.call
  -- A name is given only while 62 or fewer are held, and few were given.
  pub room : given_by item ≢ None → length held ≤ 62
  pub made : given_by item ≢ None → given_in own + 1 ≤ 4 * renders_in (own ++ item ∷ []) + 6
  pub counted : is_counted item ≡ true → count_by is_counted own + 1 ≤ 40 * (renders_in (own ++ item ∷ []) + 1)

-- the names but this one
abbrev pub all_but : ℕ → List ℕ → List ℕ
all_but name names = filter (λ other. not (other == name)) names

-- what is held when the call was done, and gave no name
abbrev pub held_when_done : List ℕ → Call → List ℕ
held_when_done held (call.VideoDestroy surface) = all_but surface held
held_when_done held (call.OutputDestroy surface) = all_but surface held
held_when_done held (call.DecoderDestroy decoder) = all_but decoder held
held_when_done held (call.MixerDestroy mixer) = all_but mixer held
held_when_done held _ = held

-- what is held behind a call with this reply: the name that it gives too
abbrev pub held_behind : List ℕ → Call → Reply → List ℕ
held_behind held asked (Ok (Name name)) = held ++ name ∷ []
held_behind held asked (Ok answer) = held_when_done held asked
held_behind held asked (Err refusal) = held

abbrev pub held_after : List ℕ → Item → List ℕ
held_after held (Called entry) = held_behind held entry.call entry.reply
held_after held (Ended mark) = held
