-- What a core stands for: a state of the driver.
use Rattle.std.specs.Prelude.{◌≡◌, ℕ, ◌==◌, ◌&&◌, ◌||◌, Bool, true, false, List, length, map, slice_get, Some, option_map}
use Rattle.std.specs.List.{list_any}
use Rattle.decoder_render.specs.declared.outcome.Outcome.{Outcome}
use Rattle.decoder_render.specs.declared.outcome.Outcome.TheVariants as outcome
use Rattle.present_queue.specs.Queue.{Names, Queue}
use Rattle.present_queue.specs.Queues.{Surface, queue_at}
use Rattle.driver_model.specs.Kept.{is_in_queue}
use Rattle.driver_model.specs.Objects as model
use Rattle.driver_model.specs.Presented.{queue_in}
use Rattle.driver_model.specs.States.{Note, State}
use Rattle.driver_objects.specs.Contents.{flip_of}
use Rattle.driver_objects.specs.Kept.{IsGiven, kept_of, made_of}
use Rattle.driver_objects.specs.Stored.{value_of}
use Rattle.driver_objects.specs.declared.content.Content.{Content}
use Rattle.driver_objects.specs.declared.content.Content.TheVariants as content
use Rattle.driver_objects.specs.declared.object.Object.{Object}
use Rattle.driver_objects.specs.declared.jobs.OutJob.{OutJob}
use Rattle.driver_core.specs.declared.driver.Core.{Core}

-- ---- samples that a job owes

abbrev pub is_ok : Outcome → Bool
is_ok outcome.Ok = true
is_ok _ = false

-- Some job that is out will give the surface at this place its samples: its outcome is Ok.
abbrev pub is_owed : State → ℕ → Bool
is_owed d place = list_any (λ note. note.target == place && is_ok note.outcome) d.notes

-- ---- one object

-- a queue whose surfaces are known by their places alone
abbrev pub by_place : Queue Surface → Queue ℕ
by_place queue = record {
  entries = map (λ entry. record { surface = entry.surface.object; earliest = entry.earliest }) queue.entries;
  visible = option_map (λ surface. surface.object) queue.visible;
  promise = queue.promise;
}

-- What is kept of an object is what it has. Samples and bytes that a job owes aren't there yet.
abbrev pub IsContent : List (Queue Surface) → (owed : Bool) → model.Content → Content → Type 0
IsContent queues owed (model.DeviceObject device) (content.Device kept) = (kept.time ≡ device.time) × (kept.is_preempted ≡ device.is_preempted)
IsContent queues owed (model.VideoObject surface) (content.Video kept) = (kept.size ≡ surface.size) × (owed ≡ false → value_of kept.samples ≡ surface.picture)
IsContent queues owed (model.OutputObject surface) (content.Output kept) =
    (kept.format ≡ surface.format)
    × (kept.size ≡ surface.size)
    × (option_map flip_of kept.last_flip ≡ surface.last_flip)
    × (owed ≡ false → (value_of kept.pixels).items ≡ surface.bytes)
IsContent queues owed (model.DecoderObject decoder) (content.Decoder kept) =
    (kept.profile ≡ decoder.profile) × (kept.size ≡ decoder.size) × (kept.max_references ≡ decoder.max_references)
IsContent queues owed (model.MixerObject mixer) (content.Mixer kept) = (kept.size ≡ mixer.size) × (kept.matrix ≡ mixer.matrix)
IsContent queues owed (model.QueueObject queue) (content.Queue kept) = (kept.window ≡ queue.window) × (queue.queue ≡ by_place (queue_at queues kept.number))
IsContent queues owed _ _ = ⊥

-- An object is kept while it is live or a live queue names it.
abbrev pub IsNeeded : State → ℕ → model.Object → Type 0
IsNeeded d place object = (object.is_live || is_in_queue d place) ≡ true

-- What is kept at a place is the object there.
pub record IsObject (core : Core) (d : State) (object : model.Object) (kept : Object) : Type 0 where
  pub name : kept.name ≡ object.name
  pub device : kept.device ≡ object.device
  pub live : kept.is_live ≡ object.is_live
  pub content : IsContent core.queues (is_owed d kept.place) object.content kept.content

-- what a core keeps of a running job
abbrev pub told_of : Note → ℕ × ℕ
told_of note = (note.number, note.target)

abbrev pub told_by : OutJob → ℕ × ℕ
told_by job = (job.number, job.target)

-- A destroyed queue among these names no surface.
abbrev pub AreIdle : List model.Object → Type 0
AreIdle objects =
    (place : ℕ) (object : model.Object) (queue : Queue ℕ) (surface : ℕ)
    → slice_get objects place ≡ Some object → object.is_live ≡ false → queue_in object ≡ Some queue → Names queue surface → ⊥

-- ---- the whole

-- The core stands for the state.
pub record Stands (core : Core) (d : State) : Type 0 where
  -- Each object that is kept is one of the state's, and is needed there.
  pub kept : (i : ℕ) (object : Object) → slice_get (kept_of core.objects) i ≡ Some object
      → (one : model.Object) × (slice_get d.objects object.place ≡ Some one) × IsNeeded d object.place one × IsObject core d one object
  -- Each object of the state that is needed is kept.
  pub needed : (place : ℕ) (one : model.Object) → slice_get d.objects place ≡ Some one → IsNeeded d place one
      → (i : ℕ) × (object : Object) × (slice_get (kept_of core.objects) i ≡ Some object) × (object.place ≡ place)
  -- As many objects were made, and just their names were given.
  pub made : made_of core.objects ≡ length d.objects
  pub given : IsGiven core.objects (map (λ object. object.name) d.objects)
  -- The jobs that are out are those that have notes.
  pub jobs : map told_by core.jobs.items ≡ map told_of d.notes
  -- A destroyed queue names nothing.
  pub idle_queues : AreIdle d.objects
