-- The part of a history that is about one device.
use Rattle.std.specs.Prelude.{◌≡◌, ℕ, ◌+◌, ◌==◌, Bool, true, false, not, ◌&&◌, ◌||◌, if◌then◌else◌, List, [], ◌∷◌, ◌++◌, map, filter_map, position, Option, Some, None, Ok, Err}
use Rattle.std.specs.List.{list_any}
use Rattle.std.specs.Option.{option_map_or, option_to_list}
use Rattle.cb_types.specs.References.{is_absent, is_unused}
use Rattle.cb_types.specs.declared.picture_info.Reference.{Reference}
use Rattle.vd_status.specs.declared.refusal.Refusal.TheVariants.{HandlesFull}
use Rattle.driver_model.specs.Answers.{Reply}
use Rattle.driver_model.specs.declared.calls.Call.{Call}
use Rattle.driver_model.specs.declared.calls.Call.TheVariants as call
use Rattle.driver_model.specs.declared.calls.Wish.{Wish}
use Rattle.driver_model.specs.declared.calls.Wish.TheVariants as wish
use Rattle.driver_model.specs.declared.items.Entry.{Entry}
use Rattle.driver_model.specs.declared.items.Item.{Item}
use Rattle.driver_model.specs.declared.items.Item.TheVariants.{Called, Ended}
use Rattle.driver_model.specs.declared.replies.Answer.TheVariants.{Name}

-- the object that a wish is about
abbrev pub wish_name : Wish → ℕ
wish_name (wish.OutputIdle surface) = surface
wish_name (wish.VideoHome surface) = surface
wish_name (wish.OutputHome surface) = surface
wish_name (wish.PromisePast queue time) = queue

abbrev pub first_wish_name : List Wish → Option ℕ
first_wish_name [] = None
first_wish_name (one ∷ others) = Some (wish_name one)

-- the first name among a call's arguments
abbrev pub first_name : Call → Option ℕ
first_name call.DeviceCreate = None
first_name (call.DeviceDestroy device) = Some device
first_name (call.VideoCreate device chroma width height) = Some device
first_name (call.VideoParameters surface) = Some surface
first_name (call.VideoGetBits surface format length) = Some surface
first_name (call.VideoPutBits surface format bytes) = Some surface
first_name (call.VideoDestroy surface) = Some surface
first_name (call.OutputCreate device format width height) = Some device
first_name (call.OutputGetBits surface length) = Some surface
first_name (call.OutputPutBits surface bytes) = Some surface
first_name (call.OutputDestroy surface) = Some surface
first_name (call.DecoderQuery device profile) = Some device
first_name (call.DecoderCreate device profile width height max_references) = Some device
first_name (call.DecoderDestroy decoder) = Some decoder
first_name (call.MixerCreate device width height) = Some device
first_name (call.MixerSetMatrix mixer matrix) = Some mixer
first_name (call.MixerDestroy mixer) = Some mixer
first_name (call.QueueCreate device window) = Some device
first_name (call.QueueDestroy queue) = Some queue
first_name (call.QueueDisplay queue surface earliest) = Some queue
first_name (call.QueryStatus queue surface) = Some queue
first_name (call.BlockUntilIdle queue surface) = Some queue
first_name (call.GetTime queue) = Some queue
first_name (call.Promise queue time) = Some queue
first_name (call.Advance device time) = Some device
first_name (call.Preempt device) = Some device
first_name (call.Poll wishes) = first_wish_name wishes
first_name (call.WaitUntil wishes) = first_wish_name wishes
first_name call.Kept = None
first_name (call.Render decoder target info bytes) = Some decoder
first_name (call.Mix mixer structure video output) = Some mixer

-- An entry for a reference that is used, and isn't a frame that was left out, names a surface.
abbrev pub reference_name : Reference → Option ℕ
reference_name entry = if is_unused entry || is_absent entry then None else Some entry.surface

-- every name among a call's arguments
abbrev pub names_in : Call → List ℕ
names_in (call.QueueDisplay queue surface earliest) = queue ∷ surface ∷ []
names_in (call.QueryStatus queue surface) = queue ∷ surface ∷ []
names_in (call.BlockUntilIdle queue surface) = queue ∷ surface ∷ []
names_in (call.Poll wishes) = map wish_name wishes
names_in (call.WaitUntil wishes) = map wish_name wishes
names_in (call.Render decoder target info bytes) = decoder ∷ target ∷ filter_map reference_name info.references
names_in (call.Mix mixer structure video output) = mixer ∷ video ∷ output ∷ []
names_in other = option_to_list (first_name other)

-- the name that a reply gives
abbrev pub name_given : Reply → Option ℕ
name_given (Ok (Name name)) = Some name
name_given _ = None

-- the call's first name is this one
abbrev pub is_first : ℕ → Call → Bool
is_first name call = option_map_or (λ first. first == name) (first_name call) false

-- the name of an object that the item made on this device
abbrev pub made_on : ℕ → Item → Option ℕ
made_on device (Called entry) = if is_first device entry.call then name_given entry.reply else None
made_on device (Ended mark) = None

-- the device's name, and those of all its objects
abbrev pub names_of : List Item → ℕ → List ℕ
names_of history device = device ∷ filter_map (made_on device) history

-- the number is one of the names
abbrev pub is_among : List ℕ → ℕ → Bool
is_among names name = list_any (λ other. other == name) names

-- the name that an item gives
abbrev pub given_by : Item → Option ℕ
given_by (Called entry) = name_given entry.reply
given_by (Ended mark) = None

-- A call with one of these names as its first names objects of one device alone, the device that has these names: none of its names is
-- one that the history gave to another device's object.
abbrev pub NamesOneDevice : List Item → ℕ → Entry → Type 0
NamesOneDevice history device entry =
    list_any (λ name. is_first name entry.call) (names_of history device) ≡ true
    → (name : ℕ)
    → is_among (names_in entry.call) name ≡ true
    → is_among (filter_map given_by history) name ≡ true
    → is_among (names_of history device) name ≡ true

-- the entry is the creation of this device
abbrev pub is_creation : ℕ → Call → Reply → Bool
is_creation device call.DeviceCreate (Ok (Name name)) = name == device
is_creation device _ _ = false

-- a create found no name to give, or no room
abbrev pub is_out_of_handles : Reply → Bool
is_out_of_handles (Err (HandlesFull live given)) = true
is_out_of_handles _ = false

-- the entry is about the device, whose objects have these names
abbrev pub is_about : ℕ → List ℕ → Entry → Bool
is_about device names entry =
    (is_creation device entry.call entry.reply || list_any (λ name. is_first name entry.call) names)
    && not (is_out_of_handles entry.reply)

-- The items of a list that are about the device. `here` is the place of the list's first item in the history, and `places` are those
-- of the items before it that are about the device. A mark is about the device if the entry that it ends is; it then names that
-- entry by its place in the part.
unfoldable pub part_from : ℕ → List ℕ → List ℕ → ℕ → List Item → List Item
part_from device names places here [] = []
part_from device names places here (Called entry ∷ later) =
    if is_about device names entry
    then Called entry ∷ part_from device names (places ++ here ∷ []) (here + 1) later
    else part_from device names places (here + 1) later
part_from device names places here (Ended mark ∷ later) =
    elim (position (λ place. place == mark.place) places) as (λ found. List Item) [
      | None ↦ part_from device names places (here + 1) later
      | Some place ↦ Ended (record mark { place = place }) ∷ part_from device names (places ++ here ∷ []) (here + 1) later
    ]

-- the part of a history that is about the device of this name
abbrev pub part : List Item → ℕ → List Item
part history device = part_from device (names_of history device) [] 0 history

-- what that part has of a front of the history
abbrev pub part_of_front : List Item → ℕ → List Item → List Item
part_of_front history device front = part_from device (names_of history device) [] 0 front
