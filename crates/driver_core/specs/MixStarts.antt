-- What a mix finds among the kept objects, and what it begins with. No public clause cites this module.
use Rattle.std.specs.Prelude.{◌≡◌, ℕ, ◌&&◌, true, List, map, replicate, slice_get, Some, Ok, Err}
use Rattle.cb_types.specs.declared.size.SizeMbs.{SizeMbs}
use Rattle.decoder_render.specs.declared.outcome.Outcome.TheVariants as outcome
use Rattle.vd_status.specs.declared.refusal.Refusal.{Refusal}
use Rattle.vd_status.specs.declared.refusal.Refusal.TheVariants.{OutOfMemory}
use Rattle.driver_jobs.specs.Mixes as mixes
use Rattle.driver_jobs.specs.declared.mixes.CoreMix.{CoreMix}
use Rattle.driver_model.specs.Mixes as model_mixes
use Rattle.driver_model.specs.Objects as model
use Rattle.driver_model.specs.Refusals.{first_handle, further_handle}
use Rattle.driver_model.specs.Sizes.{is_same_size, pixel_bytes}
use Rattle.driver_model.specs.States.{State, free_number, named, with_content, with_note}
use Rattle.driver_model.specs.Steps.{Step}
use Rattle.driver_model.specs.Waits.{Waits}
use Rattle.driver_model.specs.declared.calls.Call.TheVariants.{Mix}
use Rattle.driver_objects.specs.Contents.{HasContent}
use Rattle.driver_objects.specs.Kept.{kept_of}
use Rattle.driver_objects.specs.Kinds.{is_mixer, is_output, is_video}
use Rattle.driver_objects.specs.Stored.{value_of}
use Rattle.driver_objects.specs.declared.content.Content.TheVariants as content
use Rattle.driver_objects.specs.declared.content.OutputSurface.{OutputSurface}
use Rattle.driver_objects.specs.declared.content.VideoMixer.{VideoMixer}
use Rattle.driver_objects.specs.declared.content.VideoSurface.{VideoSurface}
use Rattle.driver_objects.specs.declared.object.Object.{Object}
use Rattle.driver_core.specs.Begun.{BeginsMix}
use Rattle.driver_core.specs.Jobs.{HasBytesThere}
use Rattle.driver_core.specs.Roles.{IsLiveAt}
use Rattle.driver_core.specs.Stands.{IsContent, Stands, is_owed}
use Rattle.driver_core.specs.declared.answer.CoreAnswer.{CoreAnswer}
use Rattle.driver_core.specs.declared.answer.CoreAnswer.TheVariants.{Later, Now}
use Rattle.driver_core.specs.declared.driver.Core.{Core}
use Rattle.driver_core.specs.declared.mixes.Mixing.{Mixing}

-- ---- what is found

module _ (kept : List Object) (at : Mixing) where
  -- these are a live mixer, a live video surface and a live output surface
  pub record AreLive : Type 0 where
    pub mixer : IsLiveAt is_mixer kept at.mixer
    pub video : IsLiveAt is_video kept at.video
    pub output : IsLiveAt is_output kept at.output

  -- what is true of the sizes of the three
  abbrev pub OfSizes : (SizeMbs → SizeMbs → SizeMbs → Type 0) → Type 0
  OfSizes Are =
      (mixer : VideoMixer) (video : VideoSurface) (output : OutputSurface)
      → HasContent kept at.mixer (content.Mixer mixer) → HasContent kept at.video (content.Video video) → HasContent kept at.output (content.Output output)
      → Are mixer.size video.size output.size

  abbrev pub AreOneSize : Type 0
  AreOneSize = OfSizes (λ mixer video output. (is_same_size mixer video && is_same_size mixer output) ≡ true)

  -- what is true of the places of the two surfaces among all objects ever made
  abbrev pub OfPlaces : (ℕ → ℕ → Type 0) → Type 0
  OfPlaces Are = (video output : Object) → slice_get kept at.video ≡ Some video → slice_get kept at.output ≡ Some output → Are video.place output.place

-- This one of the kept objects is the one at this place in the state, which has this.
pub record IsThere (core : Core) (d : State) (index place : ℕ) (what : model.Content) : Type 0 where
  pub object : Object
  pub there : slice_get (kept_of core.objects) index ≡ Some object
  pub at_place : object.place ≡ place
  pub is : IsContent core.queues (is_owed d place) what object.content

-- The three handles of a mix name these of the kept objects in the state.
pub record IsNamed (core : Core) (handle surface onto : ℕ) (at : Mixing) (d : State) : Type 0 where
  pub on : model_mixes.Mixing
  pub of_mixer : first_handle d (named d model.as_mixer handle) ≡ Ok on.mixer
  pub of_video : further_handle 1 on.mixer.device (named d model.as_video surface) ≡ Ok on.video
  pub of_output : further_handle 2 on.mixer.device (named d model.as_output onto) ≡ Ok on.output
  pub mixer : IsThere core d at.mixer on.mixer.place (model.MixerObject on.mixer.value)
  pub video : IsThere core d at.video on.video.place (model.VideoObject on.video.value)
  pub output : IsThere core d at.output on.output.place (model.OutputObject on.output.value)

abbrev pub AreNamed : Core → (handle surface onto : ℕ) → Mixing → Type 0
AreNamed core handle surface onto at = (d : State) → Stands core d → IsNamed core handle surface onto at d

-- The mix finds them, or it is refused, in each state for which the core stands.
abbrev pub FindsMix : Core → (handle structure surface onto : ℕ) → Mixing → Type 0
FindsMix core handle structure surface onto at =
    (d : State) → Stands core d
    → (named : IsNamed core handle surface onto at d) × (model_mixes.mix d handle structure surface onto ≡ Ok named.on)

abbrev pub RefusesMix : Core → (handle structure surface onto : ℕ) → Refusal → Type 0
RefusesMix core handle structure surface onto refusal = (d : State) → Stands core d → model_mixes.mix d handle structure surface onto ≡ Err refusal

-- ---- what is begun

-- The job holds what the objects have, and its number is the free one; the core stands for the state where the output surface has some
-- bytes and the job is noted.
pub record HoldsMix (old new : Core) (at : Mixing) (job : CoreMix) : Type 0 where
  pub mixer : VideoMixer
  pub video : VideoSurface
  pub output : OutputSurface
  pub has_mixer : HasContent (kept_of old.objects) at.mixer (content.Mixer mixer)
  pub has_video : HasContent (kept_of old.objects) at.video (content.Video video)
  pub has_output : HasContent (kept_of old.objects) at.output (content.Output output)
  pub size : mixes.size_of job ≡ output.size
  pub picture : mixes.picture_of job ≡ value_of video.samples
  pub matrix : mixes.matrix_of job ≡ mixer.matrix
  pub format : mixes.format_of job ≡ output.format
  pub zeros : mixes.held_by job ≡ replicate (pixel_bytes output.size) 0
  pub numbered : (d : State) → Stands old d → mixes.number_of job ≡ free_number (map (λ note. note.number) d.notes)
  pub stands : (d : State) (caller : List ℕ) (object : Object) (content : model.Content)
      → Stands old d → slice_get (kept_of old.objects) at.output ≡ Some object → HasBytesThere d object.place content
      → Stands new (with_note (with_content d object.place content) caller object.place outcome.Ok)

-- There was no memory, and nothing has changed.
abbrev pub WantsMemory : (old new : Core) → Refusal → Type 0
WantsMemory old new refusal = (refusal ≡ OutOfMemory) × ((d : State) → Stands old d → Stands new d)

-- what the start of a mix answers: the job, a refusal, or that the call has to wait
abbrev pub IsStart : (new : Core) (d : State) → List ℕ → (handle structure surface onto : ℕ) → CoreAnswer CoreMix → Type 0
IsStart new d caller handle structure surface onto (Now (Ok job)) = BeginsMix new d caller handle structure surface onto job
IsStart new d caller handle structure surface onto (Now (Err refusal)) = Step d caller (Mix handle structure surface onto) (Err refusal) d × Stands new d
IsStart new d caller handle structure surface onto Later = Waits d (Mix handle structure surface onto) × Stands new d

abbrev pub StartMix : (old new : Core) (handle structure surface onto : ℕ) → CoreAnswer CoreMix → Type 0
StartMix old new handle structure surface onto answer = (d : State) (caller : List ℕ) → Stands old d → IsStart new d caller handle structure surface onto answer
