-- What is kept of the jobs that are out, and what becomes of it. No public clause cites this module.
use Rattle.std.specs.Prelude.{◌≡◌, ◌≢◌, ℕ, true, false, List, map, slice_get, Option, Some, None}
use Rattle.decoder_render.specs.declared.outcome.Outcome.{Outcome}
use Rattle.decoder_render.specs.declared.outcome.Outcome.TheVariants as outcome
use Rattle.vd_plane.specs.declared.picture.Picture.{Picture}
use Rattle.driver_model.specs.Objects as model
use Rattle.driver_model.specs.States.{Note, State, content_at, free_number, with_content, with_note, without_note}
use Rattle.driver_objects.specs.Kept.{kept_of}
use Rattle.driver_objects.specs.declared.object.Object.{Object}
use Rattle.driver_core.specs.Owed.{IsOut}
use Rattle.driver_core.specs.Stands.{IsContent, Stands, is_ok}
use Rattle.driver_core.specs.declared.driver.Core.{Core}

-- The surface at this place has this picture, or these bytes, in place of its own.
abbrev pub HasPictureThere : State → ℕ → model.Content → Type 0
HasPictureThere d place content = (surface : model.VideoSurface) × (picture : Picture) × (content_at d model.as_video place ≡ Some surface) × (content ≡ model.VideoObject (record surface { picture = picture }))

abbrev pub HasBytesThere : State → ℕ → model.Content → Type 0
HasBytesThere d place content = (surface : model.OutputSurface) × (bytes : List ℕ) × (content_at d model.as_output place ≡ Some surface) × (content ≡ model.OutputObject (record surface { bytes = bytes }))

-- A job more is out, which writes this one of the kept objects.
pub record Notes (old new : Core) (index number : ℕ) : Type 0 where
  pub numbered : number ≡ free_number (map (λ job. job.number) old.jobs.items)
  -- where it is to write a picture, or bytes
  pub picture : (d : State) (caller : List ℕ) (object : Object) (content : model.Content)
      → Stands old d → slice_get (kept_of old.objects) index ≡ Some object → HasPictureThere d object.place content
      → Stands new (with_note (with_content d object.place content) caller object.place outcome.Ok)
  pub bytes : (d : State) (caller : List ℕ) (object : Object) (content : model.Content)
      → Stands old d → slice_get (kept_of old.objects) index ≡ Some object → HasBytesThere d object.place content
      → Stands new (with_note (with_content d object.place content) caller object.place outcome.Ok)
  -- where it is to write nothing
  pub nothing : (d : State) (caller : List ℕ) (object : Object) (outcome : Outcome)
      → Stands old d → slice_get (kept_of old.objects) index ≡ Some object
      → Stands new (with_note d caller object.place outcome)

-- What is kept of the object at this place is all that it has.
abbrev pub IsHome : Core → State → ℕ → Type 0
IsHome core d place =
    (i : ℕ) (object : Object) (one : model.Object)
    → slice_get (kept_of core.objects) i ≡ Some object → object.place ≡ place → slice_get d.objects place ≡ Some one
    → IsContent core.queues false one.content object.content

-- Which of the kept objects a job writes, if it is kept.
abbrev pub IsTarget : Core → Note → Option ℕ → Type 0
IsTarget core note None = (i : ℕ) (object : Object) → slice_get (kept_of core.objects) i ≡ Some object → object.place ≢ note.target
IsTarget core note (Some index) = (object : Object) × (slice_get (kept_of core.objects) index ≡ Some object) × (object.place ≡ note.target)

abbrev pub Targets : Core → (number : ℕ) → Option ℕ → Type 0
Targets core number result = (d : State) (note : Note) → Stands core d → IsOut d number note → IsTarget core note result

-- The job isn't out any more; what it owed is there.
abbrev pub Forgets : (old new : Core) (number : ℕ) → Type 0
Forgets old new number =
    (d : State) (note : Note)
    → Stands old d → IsOut d number note → (is_ok note.outcome ≡ true → IsHome old d note.target)
    → Stands new (without_note d note.caller note.place)
