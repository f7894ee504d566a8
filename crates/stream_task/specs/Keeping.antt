-- How the fields of a task lie in what it stands for. Callers need only StandsFor.
use Rattle.std.specs.Prelude.{◌≡◌, ◌≢◌, ℕ, ◌+◌, ◌*◌, ◌<◌, ◌≤◌, ◌⊎◌, true, false, if◌then◌else◌, List, [], ◌∷◌, ◌++◌, All, length, filter_map, count_by, slice_index_or, Option, Some, None, ⊤}
use Rattle.std.specs.Option.{is_some, option_to_list}
use Rattle.access_units.specs.Acceptors.{IsDecodable, IsNext, Shows}
use Rattle.access_units.specs.Pictures.{Picture}
use Rattle.access_units.specs.declared.acceptor.Unsettled.{Unsettled}
use Rattle.accepted_pictures.specs.Streams.{past_of}
use Rattle.cb_types.specs.SizeMbs.{IsWithinLimits}
use Rattle.cb_types.specs.declared.size.SizeMbs.{SizeMbs}
use Rattle.device_lock.specs.Numbers.{Knows}
use Rattle.device_lock.specs.declared.view.View.{View}
use Rattle.driver_model.specs.Parts.{is_among}
use Rattle.driver_model.specs.Passes.{caller_of}
use Rattle.driver_model.specs.declared.items.Item.{Item}
use Rattle.player_laws.specs.Room.{given_in}
use Rattle.stream_calls.specs.Counted.{device_of, has_done, is_counted, is_queue_create, renders_in}
use Rattle.stream_calls.specs.HeldNames.{HoldsNames}
use Rattle.stream_calls.specs.OneDevice.{StaysOnOneDevice}
use Rattle.stream_calls.specs.StreamCalls.{Fed, Stream}
use Rattle.stream_course.specs.Way.{Way}
use Rattle.stream_course.specs.Standing as course
use Rattle.stream_task.specs.Calls.{queue_of}
use Rattle.stream_task.specs.Places.{IsPlace, fits, index_of}
use Rattle.stream_task.specs.Surfaces.{IsFree, IsIn, surface_of, waiting_in}
use Rattle.stream_task.specs.declared.objects.Made.{Made}
use Rattle.stream_task.specs.declared.objects.Objects.{Objects}
use Rattle.stream_task.specs.declared.objects.Place.{Place}
use Rattle.stream_task.specs.declared.objects.Place.TheVariants as place
use Rattle.stream_task.specs.declared.phase.Phase.{Phase}
use Rattle.stream_task.specs.declared.phase.Phase.TheVariants as phase
use Rattle.stream_task.specs.declared.slots.Slots.{Slots}
use Rattle.stream_task.specs.declared.task.StreamTask.{StreamTask}

-- ---- objects

abbrev pub one_if : {A : Type 0} → Option A → ℕ
one_if None = 0
one_if (Some value) = 1

abbrev pub name_in : Option Made → Option ℕ
name_in (Some made) = Some made.name
name_in None = None

-- the names of all that a task has
abbrev pub names_held : Objects → List ℕ
names_held objects = option_to_list objects.device ++ (option_to_list objects.queue ++ filter_map name_in objects.made)

abbrev pub IsSized : Option Made → Type 0
IsSized None = ⊤
IsSized (Some made) = IsWithinLimits made.size

-- What was made is what the caller's items made and didn't destroy.
pub record AreMade (objects : Objects) (pass : View Item) : Type 0 where
  pub places : length objects.made ≡ 40
  pub device : objects.device ≡ device_of pass.own
  pub queue : objects.queue ≡ queue_of pass.own
  pub queues : count_by (has_done is_queue_create) pass.own ≡ one_if objects.queue
  pub holds : HoldsNames pass.seen pass.own (names_held objects)
  pub opened : (index : ℕ) (object : Made) → slice_index_or objects.made index None ≡ Some object → objects.queue ≢ None
  pub sized : All IsSized objects.made

-- what is in a place, by its index
abbrev pub made_at : Objects → ℕ → Option Made
made_at objects index = slice_index_or objects.made index None

-- ---- pictures that wait in video surfaces

-- Each surface with a picture was made; each picture that was decoded, and of which it wasn't said what becomes of it, is in one, and
-- so are these; and there are no more.
pub record Wait (slots : Slots) (objects : Objects) (way : Way) (kept : List ℕ) : Type 0 where
  pub places : length slots.waits ≡ 34
  pub made : (surface number : ℕ) → IsIn slots surface number → (object : Made) × (made_at objects (2 + surface) ≡ Some object)
  pub each : (number : ℕ) → number < length way.fed.decoded → is_among way.told number ≡ false → (surface : ℕ) × IsIn slots surface number
  pub few : waiting_in slots + length way.told ≡ length way.fed.decoded + length kept

-- ---- what the task is about

-- The picture is the one that is to be settled, and is to be decoded into a free surface, which is no other own number's.
pub record Renders (slots : Slots) (way : Way) (picture : Unsettled) (surface : ℕ) : Type 0 where
  pub one : Picture
  pub given : way.given ≡ Some one
  pub next : IsNext (past_of way.fed) one
  pub shows : Shows picture one
  pub decodable : IsDecodable (past_of way.fed) picture
  pub going : way.failed ≡ None
  pub within : surface < 34
  pub free : IsFree slots surface
  pub apart : (other : ℕ) → other < 17 → other ≢ picture.begun.frame → surface_of slots other ≢ surface

-- The picture in the surface was decoded.
pub record Mixes (slots : Slots) (surface : ℕ) : Type 0 where
  pub within : surface < 34
  pub number : ℕ
  pub is_in : IsIn slots surface number

-- No picture is to be settled.
pub record Asks (task : StreamTask) (way : Way) : Type 0 where
  pub not_given : way.given ≡ None
  pub wait : Wait task.slots task.objects way []

pub record Rendering (task : StreamTask) (way : Way) (picture : Unsettled) (surface : ℕ) : Type 0 where
  pub renders : Renders task.slots way picture surface
  pub wait : Wait task.slots task.objects way []

pub record Mixing (task : StreamTask) (way : Way) (surface : ℕ) : Type 0 where
  pub not_given : way.given ≡ None
  pub mixes : Mixes task.slots surface
  pub told : is_among way.told mixes.number ≡ true
  pub device : task.objects.device ≢ None
  pub wait : Wait task.slots task.objects way (mixes.number ∷ [])

pub record Displaying (task : StreamTask) (way : Way) : Type 0 where
  pub not_given : way.given ≡ None
  pub queue : task.objects.queue ≢ None
  pub output : made_at task.objects (36 + task.turn) ≢ None
  pub wait : Wait task.slots task.objects way []

abbrev pub IsAbout : Phase → StreamTask → Way → Type 0
IsAbout phase.Asking task way = Asks task way
IsAbout (phase.Rendering picture surface) task way = Rendering task way picture surface
IsAbout (phase.Mixing surface time) task way = Mixing task way surface
IsAbout (phase.Displaying time) task way = Displaying task way
IsAbout (phase.Promising time) task way = Asks task way
IsAbout (phase.Done verdict) task way = ⊤

-- ---- how many calls were made

-- how many creates a place has taken that is to have an object for pictures of this size
abbrev pub creates_at : Option Made → SizeMbs → ℕ
creates_at object size = if fits size object then 1 else 0

-- how many calls: a destroy and a create
abbrev pub calls_at : Option Made → SizeMbs → ℕ
calls_at None size = 1
calls_at (Some made) size = if fits size (Some made) then 2 else 0

-- in which of two places an object is, or none
abbrev pub opened : Objects → ℕ
opened objects = one_if objects.device + one_if objects.queue

-- what a picture that came to no whole one has taken
abbrev pub failed_creates : Way → ℕ
failed_creates way = if is_some way.failed then 2 else 0

abbrev pub failed_calls : Way → ℕ
failed_calls way = if is_some way.failed then 6 else 0

-- as many creates as a device, a queue, and two for each picture decoded and each told of
abbrev pub base_creates : Objects → Way → ℕ
base_creates objects way = opened objects + 2 * length way.fed.decoded + 2 * length way.told + failed_creates way

-- as many calls as these, six for each picture decoded, seven for each told of, and the promises
abbrev pub base_calls : Objects → Way → ℕ
base_calls objects way = opened objects + 6 * length way.fed.decoded + 7 * length way.told + way.promises + failed_calls way

-- So many creates, and so many calls that count, are within what the phase allows.
abbrev pub AreWithin : Phase → StreamTask → Way → (creates calls : ℕ) → Type 0
AreWithin phase.Asking task way creates calls = (creates ≤ base_creates task.objects way) × (calls ≤ base_calls task.objects way)
AreWithin (phase.Rendering picture surface) task way creates calls =
    (creates ≤ base_creates task.objects way + creates_at (made_at task.objects 0) picture.size + creates_at (made_at task.objects (2 + surface)) picture.size)
    × (calls ≤ base_calls task.objects way + calls_at (made_at task.objects 0) picture.size + calls_at (made_at task.objects (2 + surface)) picture.size)
AreWithin (phase.Mixing surface time) task way creates calls =
    (video : Made) → made_at task.objects (2 + surface) ≡ Some video →
    (creates + 2 ≤ base_creates task.objects way + creates_at (made_at task.objects 1) video.size + creates_at (made_at task.objects (36 + task.turn)) video.size)
    × (calls + 7 ≤ base_calls task.objects way + calls_at (made_at task.objects 1) video.size + calls_at (made_at task.objects (36 + task.turn)) video.size)
AreWithin (phase.Displaying time) task way creates calls = (creates ≤ base_creates task.objects way) × (calls + 1 ≤ base_calls task.objects way)
AreWithin (phase.Promising time) task way creates calls = (creates ≤ base_creates task.objects way) × (calls + 1 ≤ base_calls task.objects way)
AreWithin (phase.Done verdict) task way creates calls = (creates ≤ 4 * length way.fed.decoded + 6) × (calls ≤ 40 * (length way.fed.decoded + 1))

pub record AreFew (task : StreamTask) (way : Way) (own : List Item) : Type 0 where
  pub renders : renders_in own ≡ length way.fed.decoded
  pub promises : way.promises ≤ length way.told + 2
  pub within : AreWithin task.phase task way (given_in own) (count_by is_counted own)

-- ---- what is made next

abbrev pub IsMaking : Phase → Type 0
IsMaking (phase.Rendering picture surface) = ⊤
IsMaking _ = ⊥

-- The phase wants an object in this place for pictures of this size, and none of this size is there.
abbrev pub WantsPlace : Phase → StreamTask → Place → SizeMbs → Type 0
WantsPlace (phase.Rendering picture surface) task here size =
    (size ≡ picture.size) × ((here ≡ place.Decoder) ⊎ (here ≡ place.Video surface))
WantsPlace (phase.Mixing surface time) task here size =
    ((video : Made) × (made_at task.objects (2 + surface) ≡ Some video) × (size ≡ video.size))
    × ((here ≡ place.Mixer) ⊎ (here ≡ place.Output task.turn))
WantsPlace _ task here size = ⊥

pub record IsWanted (task : StreamTask) (here : Place) (size : SizeMbs) : Type 0 where
  pub is_place : IsPlace here
  pub wants : WantsPlace task.phase task here size
  pub unfit : fits size (made_at task.objects (index_of here)) ≡ false

-- A decoder with this name is there, and a video surface with this one in this place, both for the picture's size.
pub record HasBoth (task : StreamTask) (picture : Unsettled) (surface decoder video : ℕ) : Type 0 where
  pub device : task.objects.device ≢ None
  pub queue : task.objects.queue ≢ None
  pub decoder_there : made_at task.objects 0 ≡ Some (record { name = decoder; size = picture.size })
  pub video_there : made_at task.objects (2 + surface) ≡ Some (record { name = video; size = picture.size })

-- ---- the whole

pub record StandsFor (task : StreamTask) (of : Stream) (fed : Fed) (pass : View Item) : Type 0 where
  pub knows : Knows caller_of pass
  pub number : task.stream ≡ of.number
  pub turn : task.turn < 4
  pub made : AreMade task.objects pass
  pub way : Way
  pub course : course.StandsFor task.course of way
  pub fed_is : fed ≡ record { bytes = way.fed.text; ended = way.fed.ended }
  pub about : IsAbout task.phase task way
  pub few : AreFew task way pass.own

-- The task stands for what was fed and for the pass, whose calls stay on one device.
pub record Ready (task : StreamTask) (of : Stream) (fed : Fed) (pass : View Item) : Type 0 where
  pub stands : StandsFor task of fed pass
  pub stays : StaysOnOneDevice pass.seen pass.own of.number
