-- What a render begins with. No public clause cites this module.
use Rattle.std.specs.Prelude.{◌≡◌, ℕ, ◌<◌, List, length, map, slice_get, slice_index_or, Option, Some, None, Ok, Err}
use Rattle.cb_types.specs.declared.picture_info.PictureInfo.{PictureInfo}
use Rattle.decoder_render.specs.Coverage.{given}
use Rattle.decoder_render.specs.Submission.{ArePayloads}
use Rattle.decoder_render.specs.declared.outcome.Outcome.{Outcome}
use Rattle.decoder_render.specs.declared.outcome.Outcome.TheVariants as outcome
use Rattle.driver_jobs.specs.Renders as renders
use Rattle.driver_jobs.specs.declared.renders.CoreRender.{CoreRender}
use Rattle.vd_plane.specs.Picture.{IsZeros}
use Rattle.vd_plane.specs.declared.picture.Picture.{Picture}
use Rattle.vd_status.specs.declared.refusal.Refusal.{Refusal}
use Rattle.vd_status.specs.declared.refusal.Refusal.TheVariants.{OutOfMemory}
use Rattle.driver_model.specs.Objects as model
use Rattle.driver_model.specs.States.{State, free_number, with_content, with_note}
use Rattle.driver_model.specs.Steps.{Step}
use Rattle.driver_model.specs.Waits.{Waits}
use Rattle.driver_model.specs.declared.calls.Call.TheVariants.{Render}
use Rattle.driver_objects.specs.Contents.{HasSamples}
use Rattle.driver_objects.specs.Kept.{kept_of}
use Rattle.driver_objects.specs.declared.object.Object.{Object}
use Rattle.driver_objects.specs.declared.references.Rendering.{Rendering}
use Rattle.driver_core.specs.Begun.{BeginsRender}
use Rattle.driver_core.specs.Jobs.{HasPictureThere}
use Rattle.driver_core.specs.Stands.{Stands}
use Rattle.driver_core.specs.declared.answer.CoreAnswer.{CoreAnswer}
use Rattle.driver_core.specs.declared.answer.CoreAnswer.TheVariants.{Later, Now}
use Rattle.driver_core.specs.declared.driver.Core.{Core}

-- the picture is what the surface of a reference has, if there is one
abbrev pub IsLent : List Object → Option ℕ → Option Picture → Type 0
IsLent kept None None = Unit {0}
IsLent kept (Some index) (Some picture) = HasSamples kept index picture
IsLent kept _ _ = ⊥

-- so of each reference
abbrev pub AreLent : List Object → List (Option ℕ) → List (Option Picture) → Type 0
AreLent kept slots pictures = (place : ℕ) → place < 16 → IsLent kept (slice_index_or slots place None) (slice_index_or pictures place None)

-- The job holds the bytes' units and what the references have, and its number is the free one; the core stands for the state where the target
-- has some picture and the job is noted, or where the job is noted only.
pub record HoldsRender (old new : Core) (on : Rendering) (info : PictureInfo) (bytes : List ℕ) (job : CoreRender) : Type 0 where
  pub pictures : List (Option Picture)
  pub count : length pictures ≡ 16
  pub lent : AreLent (kept_of old.objects) on.references pictures
  pub given : renders.given_of job ≡ given info on.decoder.size pictures
  pub units : ArePayloads bytes (renders.payloads_of job)
  pub zeros : IsZeros (renders.held_by job) on.decoder.size.width on.decoder.size.height
  pub numbered : (d : State) → Stands old d → renders.number_of job ≡ free_number (map (λ note. note.number) d.notes)
  pub picture : (d : State) (caller : List ℕ) (object : Object) (content : model.Content)
      → Stands old d → slice_get (kept_of old.objects) on.target ≡ Some object → HasPictureThere d object.place content
      → Stands new (with_note (with_content d object.place content) caller object.place outcome.Ok)
  pub nothing : (d : State) (caller : List ℕ) (object : Object) (outcome : Outcome)
      → Stands old d → slice_get (kept_of old.objects) on.target ≡ Some object
      → Stands new (with_note d caller object.place outcome)

-- There was no memory, and nothing has changed.
abbrev pub WantsMemory : (old new : Core) → Refusal → Type 0
WantsMemory old new refusal = (refusal ≡ OutOfMemory) × ((d : State) → Stands old d → Stands new d)

-- what the start of a render answers: the job, a refusal, or that the call has to wait
abbrev pub IsStart : (new : Core) (d : State) → List ℕ → (decoder target : ℕ) → PictureInfo → (bytes : List ℕ) → CoreAnswer CoreRender → Type 0
IsStart new d caller decoder target info bytes (Now (Ok job)) = BeginsRender new d caller decoder target info bytes job
IsStart new d caller decoder target info bytes (Now (Err refusal)) = Step d caller (Render decoder target info bytes) (Err refusal) d × Stands new d
IsStart new d caller decoder target info bytes Later = Waits d (Render decoder target info bytes) × Stands new d

abbrev pub StartRender : (old new : Core) (decoder target : ℕ) → PictureInfo → (bytes : List ℕ) → CoreAnswer CoreRender → Type 0
StartRender old new decoder target info bytes answer = (d : State) (caller : List ℕ) → Stands old d → IsStart new d caller decoder target info bytes answer
