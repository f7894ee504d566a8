-- What a call that begins a job has to do with the step of the driver that it takes.
use Rattle.std.specs.Prelude.{◌≡◌, ℕ, List, [], ◌∷◌, ◌++◌, replicate, Option, Some, None, Ok, Err}
use Rattle.cb_types.specs.declared.picture_info.PictureInfo.{PictureInfo}
use Rattle.decoder_render.specs.Outcomes.{IsOutcome}
use Rattle.decoder_render.specs.Submission.{ArePayloads}
use Rattle.decoder_render.specs.declared.outcome.Outcome.{Outcome}
use Rattle.decoder_render.specs.declared.outcome.Outcome.TheVariants as outcome
use Rattle.driver_jobs.specs.Mixes as mixes
use Rattle.driver_jobs.specs.Renders as renders
use Rattle.driver_jobs.specs.declared.mixes.CoreMix.{CoreMix}
use Rattle.driver_jobs.specs.declared.renders.CoreRender.{CoreRender}
use Rattle.mixer.specs.Mixed.{IsMixed}
use Rattle.vd_plane.specs.Picture.{IsZeros}
use Rattle.vd_plane.specs.declared.picture.Picture.{Picture}
use Rattle.driver_model.specs.Jobs.{reply_of}
use Rattle.driver_model.specs.Mixes.{Mixing, mix}
use Rattle.driver_model.specs.Renders.{Rendering, given_now, render}
use Rattle.driver_model.specs.Sizes.{pixel_bytes}
use Rattle.driver_model.specs.States.{Note, State}
use Rattle.driver_model.specs.Steps.{Step}
use Rattle.driver_model.specs.Waits.{Waits}
use Rattle.driver_model.specs.declared.calls.Call.{Call}
use Rattle.driver_model.specs.declared.calls.Call.TheVariants.{Mix, Render}
use Rattle.driver_core.specs.Owed.{OwesPicture, OwesPixels}
use Rattle.driver_core.specs.Stands.{Stands}
use Rattle.driver_core.specs.declared.answer.CoreBegin.{CoreBegin}
use Rattle.driver_core.specs.declared.answer.CoreBegin.TheVariants.{Job, Later, Refused}
use Rattle.driver_core.specs.declared.driver.Core.{Core}

-- The step of a call whose job has this outcome: it adds a note of the job, with the job's number, and the core stands for the state
-- behind it, where the job owes what it has still to write.
pub record TakesWith (core : Core) (d : State) (caller : List ℕ) (call : Call) (outcome : Outcome) (number : ℕ) (Owes : State → Note → Type 0) : Type 0 where
  pub after : State
  pub step : Step d caller call (reply_of outcome) after
  pub stands : Stands core after
  pub note : Note
  pub noted : after.notes ≡ d.notes ++ note ∷ []
  pub at_place : note.place ≡ d.items
  pub of_caller : note.caller ≡ caller
  pub comes_to : note.outcome ≡ outcome
  pub numbered : note.number ≡ number
  pub owes : Owes after note

-- A render holds the units of the bytes, the info, the size and the references' samples of now, and a picture of zeros. That comes to an
-- outcome, which is there at once, though the job finds it later; and the core takes the step that has it.
pub record BeginsRender (core : Core) (d : State) (caller : List ℕ) (decoder target : ℕ) (info : PictureInfo) (bytes : List ℕ) (job : CoreRender) : Type 0 where
  pub on : Rendering
  pub looks : render d decoder target info ≡ Ok on
  pub units : ArePayloads bytes (renders.payloads_of job)
  pub holds : renders.given_of job ≡ given_now info on
  pub zeros : IsZeros (renders.held_by job) on.decoder.value.size.width on.decoder.value.size.height
  pub outcome : Outcome
  pub picture : Picture
  pub comes_to : IsOutcome (renders.given_of job) (renders.payloads_of job) outcome picture
  pub takes : TakesWith core d caller (Render decoder target info bytes) outcome (renders.number_of job) (λ after note. OwesPicture after note on.decoder.value.size picture)

-- A mix holds the video surface's samples, the mixer's matrix and the output surface's format of now, and zeros for the pixels. The core
-- takes the step that puts in what that comes to.
pub record BeginsMix (core : Core) (d : State) (caller : List ℕ) (mixer structure video output : ℕ) (job : CoreMix) : Type 0 where
  pub on : Mixing
  pub looks : mix d mixer structure video output ≡ Ok on
  pub size : mixes.size_of job ≡ on.output.value.size
  pub picture : mixes.picture_of job ≡ on.video.value.picture
  pub matrix : mixes.matrix_of job ≡ on.mixer.value.matrix
  pub format : mixes.format_of job ≡ on.output.value.format
  pub zeros : mixes.held_by job ≡ replicate (pixel_bytes on.output.value.size) 0
  pub bytes : List ℕ
  pub comes_to : IsMixed (mixes.picture_of job) (mixes.matrix_of job) (mixes.format_of job) bytes
  pub takes : TakesWith core d caller (Mix mixer structure video output) outcome.Ok (mixes.number_of job) (λ after note. OwesPixels after note on.output.value.size bytes)

-- What a call answers that begins a job or is refused, or else waits. In the latter two cases nothing has changed, and what was handed
-- over comes back.
abbrev pub IsBegin : {J : Type 0} → (new : Core) (d : State) → List ℕ → Call → (handed : Option (List ℕ)) → (J → Type 0) → CoreBegin J → Type 0
IsBegin new d caller call handed Begins (Job job) = Begins job
IsBegin new d caller call handed Begins (Refused submission refusal) = (submission ≡ handed) × Step d caller call (Err refusal) d × Stands new d
IsBegin new d caller call handed Begins (Later submission) = (submission ≡ handed) × Waits d call × Stands new d

-- So for each state for which the core stood, and each caller.
abbrev pub BeginRender : (old new : Core) (decoder target : ℕ) → PictureInfo → List ℕ → CoreBegin CoreRender → Type 0
BeginRender old new decoder target info bytes answer =
    (d : State) (caller : List ℕ) → Stands old d
    → IsBegin new d caller (Render decoder target info bytes) (Some bytes) (BeginsRender new d caller decoder target info bytes) answer

abbrev pub BeginMix : (old new : Core) (mixer structure video output : ℕ) → CoreBegin CoreMix → Type 0
BeginMix old new mixer structure video output answer =
    (d : State) (caller : List ℕ) → Stands old d
    → IsBegin new d caller (Mix mixer structure video output) None (BeginsMix new d caller mixer structure video output) answer
