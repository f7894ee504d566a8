-- What a driver remembers from one call to the next.
use Rattle.std.specs.Prelude.{ℕ, zero, suc, ◌+◌, ◌==◌, Bool, false, not, ◌&&◌, if◌then◌else◌, List, [], ◌∷◌, ◌++◌, length, map, filter, slice_get, count_by, Option, None, option_map, option_and_then}
use Rattle.std.specs.List.{list_any}
use Rattle.std.specs.Option.{option_or, option_map_or}
use Rattle.decoder_render.specs.declared.outcome.Outcome.{Outcome}
use Rattle.device_lock.specs.Lists.{same}
use Rattle.driver_model.specs.Objects.{Content, Object, as_device}

-- A running job: at which item it was begun and by whom, which object it writes, how it will end, and a number that tells it
-- from the other running ones. The object is known by its place.
pub record Note : Type 0 where
  pub place : ℕ
  pub caller : List ℕ
  pub target : ℕ
  pub outcome : Outcome
  pub number : ℕ

-- Each object since the driver's start, the destroyed ones too: its place is how many were created before it. A note for each
-- running job. How many items have happened.
pub record State : Type 0 where
  pub objects : List Object
  pub notes : List Note
  pub items : ℕ

-- a new driver
abbrev pub empty_state : State
empty_state = record { objects = []; notes = []; items = 0 }

-- one item more was added to the history
abbrev pub counted : State → State
counted s = record s { items = s.items + 1 }

-- ---- objects by name and by place

-- An object that a name was found to be: its place among all objects ever made, the place of its device, and what it has.
pub record Found (T : Type 0) : Type 0 where
  pub place : ℕ
  pub device : ℕ
  pub value : T

module _ {T : Type 0} (as_kind : Content → Option T) (name : ℕ) where
  -- the object at this place, if it is live, of the kind, and has the name
  abbrev pub found_at : ℕ → Object → Option (Found T)
  found_at place object =
      if object.is_live && object.name == name
      then option_map (λ value. record { place = place; device = object.device; value = value }) (as_kind object.content)
      else None

  -- the first such object of a list, whose places begin with this one
  unfoldable pub found_from : ℕ → List Object → Option (Found T)
  found_from place [] = None
  found_from place (object ∷ later) = option_or (found_at place object) (found_from (place + 1) later)

-- the live object of this kind and name
abbrev pub named : {T : Type 0} → State → (Content → Option T) → ℕ → Option (Found T)
named s as_kind name = found_from as_kind name 0 s.objects

-- the content of the object at a place, if it is of the kind
abbrev pub content_at : {T : Type 0} → State → (Content → Option T) → ℕ → Option T
content_at s as_kind place = option_and_then (λ object. as_kind object.content) (slice_get s.objects place)

-- the name of the object at a place
abbrev pub name_at : State → ℕ → ℕ
name_at s place = option_map_or (λ object. object.name) (slice_get s.objects place) 0

-- the time of the device at a place, and whether it is preempted
abbrev pub time_of : State → ℕ → ℕ
time_of s device = option_map_or (λ of. of.time) (content_at s as_device device) 0

abbrev pub is_preempted : State → ℕ → Bool
is_preempted s device = option_map_or (λ of. of.is_preempted) (content_at s as_device device) false

-- how many objects that pass the test live
abbrev pub live_count : State → (Content → Bool) → ℕ
live_count s test = count_by (λ object. object.is_live && test object.content) s.objects

-- some object has the name, live or not
abbrev pub is_given : State → ℕ → Bool
is_given s name = list_any (λ object. object.name == name) s.objects

-- ---- how the objects change

-- the list with the object at this place changed
unfoldable pub changed_at : ℕ → (Object → Object) → List Object → List Object
changed_at place change [] = []
changed_at zero change (object ∷ later) = change object ∷ later
changed_at (suc place) change (object ∷ later) = object ∷ changed_at place change later

-- the object at this place has this content
abbrev pub with_content : State → ℕ → Content → State
with_content s place content = record s { objects = changed_at place (λ object. record object { content = content }) s.objects }

-- The object at this place is destroyed: it isn't live, and has this content.
abbrev pub destroyed_with : State → ℕ → Content → State
destroyed_with s place content =
    record s { objects = changed_at place (λ object. record object { is_live = false; content = content }) s.objects }

-- The object at this place is destroyed, and what it has stays.
abbrev pub destroyed : State → ℕ → State
destroyed s place = record s { objects = changed_at place (λ object. record object { is_live = false }) s.objects }

-- a live object more, the last one
abbrev pub with_object : State → Object → State
with_object s object = record s { objects = s.objects ++ object ∷ [] }

-- ---- notes

-- Some running job writes the surface: it is out.
abbrev pub is_out : State → ℕ → Bool
is_out s place = list_any (λ note. note.target == place) s.notes

-- the least number from this one on that isn't in the list, in so many tries
unfoldable pub free_number_from : List ℕ → ℕ → ℕ → ℕ
free_number_from numbers zero number = number
free_number_from numbers (suc tries) number =
    if list_any (λ taken. taken == number) numbers then free_number_from numbers tries (number + 1) else number

-- the least number that isn't in the list
abbrev pub free_number : List ℕ → ℕ
free_number numbers = free_number_from numbers (length numbers) 0

-- This caller begins a job: a note for it, with the place of the item that comes now and the smallest number that is free.
abbrev pub with_note : State → List ℕ → ℕ → Outcome → State
with_note s caller target outcome =
    let note : Note = record {
      place = s.items;
      caller = caller;
      target = target;
      outcome = outcome;
      number = free_number (map (λ other. other.number) s.notes);
    } in
    record s { notes = s.notes ++ note ∷ [] }

-- the note of the job that this caller began at this place
abbrev pub is_note_of : List ℕ → ℕ → Note → Bool
is_note_of caller place note = note.place == place && same caller note.caller

-- that note is there
abbrev pub has_note : State → List ℕ → ℕ → Bool
has_note s caller place = list_any (is_note_of caller place) s.notes

-- it is removed
abbrev pub without_note : State → List ℕ → ℕ → State
without_note s caller place = record s { notes = filter (λ note. not (is_note_of caller place note)) s.notes }
