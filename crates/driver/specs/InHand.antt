-- What a job knows of its beginning while it is in its caller's hands. No public clause cites this module.
use Rattle.std.specs.Prelude.{◌≡◌, ℕ, ◌+◌, ◌&&◌, Bool, true, false, List, length, slice_get, Option, Some, None, option_map}
use Rattle.cb_types.specs.declared.size.SizeMbs.{SizeMbs}
use Rattle.decoder_render.specs.Outcomes.{IsOutcome}
use Rattle.decoder_render.specs.declared.outcome.Outcome.{Outcome}
use Rattle.decoder_render.specs.declared.outcome.Outcome.TheVariants as outcome
use Rattle.device_lock.specs.Lists.{same}
use Rattle.device_lock.specs.Numbers.{items_of}
use Rattle.device_lock.specs.declared.view.View.{View}
use Rattle.driver_core.specs.Stands.{is_ok}
use Rattle.driver_jobs.specs.Mixes as mixes
use Rattle.driver_jobs.specs.Renders as renders
use Rattle.driver_jobs.specs.declared.mixes.CoreMix.{CoreMix}
use Rattle.driver_jobs.specs.declared.mixes.CoreMixDone.{CoreMixDone}
use Rattle.driver_jobs.specs.declared.renders.CoreRender.{CoreRender}
use Rattle.driver_jobs.specs.declared.renders.CoreRenderDone.{CoreRenderDone}
use Rattle.driver_model.specs.Histories.{IsStateOf}
use Rattle.driver_model.specs.Objects.{as_output, as_video}
use Rattle.driver_model.specs.Passes.{begins_job, caller_of}
use Rattle.driver_model.specs.States.{Note, State, content_at}
use Rattle.driver_model.specs.declared.items.Item.{Item}
use Rattle.driver_model.specs.declared.items.Item.TheVariants.{Called, Ended}
use Rattle.mixer.specs.Mixed.{IsMixed}
use Rattle.vd_plane.specs.declared.picture.Picture.{Picture}

-- there is an item, a call of this caller that began a job
abbrev pub is_begun_by : List ℕ → Option Item → Bool
is_begun_by caller (Some (Called entry)) = same caller entry.caller && begins_job (Called entry)
is_begun_by caller (Some (Ended mark)) = false
is_begun_by caller None = false

-- The last item that this view has seen stands at this place, is its own and began a job, and all items of its number are its own.
abbrev pub IsBegun : View Item → (place : ℕ) → Type 0
IsBegun v place =
    (length v.seen ≡ place + 1)
    × (is_begun_by v.number (slice_get v.seen place) ≡ true)
    × (length (items_of caller_of v.number v.seen) ≡ length v.own)

-- In the state to which the history leads, the note of the job that was begun at this place has this number and this outcome, and so is
-- what is said of it.
abbrev pub IsNoted : List Item → (place number : ℕ) → Outcome → (State → Note → Type 0) → Type 0
IsNoted seen place number outcome Is =
    (s : State) (index : ℕ) (note : Note)
    → IsStateOf seen s
    → slice_get s.notes index ≡ Some note
    → note.place ≡ place
    → (note.number ≡ number) × (note.outcome ≡ outcome) × Is s note

-- The job writes a video surface of this size, which has this picture where the outcome is Ok.
abbrev pub HasPicture : SizeMbs → Picture → State → Note → Type 0
HasPicture size picture s note =
    (option_map (λ surface. surface.size) (content_at s as_video note.target) ≡ Some size)
    × (is_ok note.outcome ≡ true → option_map (λ surface. surface.picture) (content_at s as_video note.target) ≡ Some picture)

-- The job writes an output surface of this size, which has these bytes.
abbrev pub HasBytes : SizeMbs → List ℕ → State → Note → Type 0
HasBytes size bytes s note =
    (option_map (λ surface. surface.size) (content_at s as_output note.target) ≡ Some size)
    × (option_map (λ surface. surface.bytes) (content_at s as_output note.target) ≡ Some bytes)

-- what a mix knows that was begun at this place, and what it knows when it was run
abbrev pub KnowsMix : List Item → (place : ℕ) → CoreMix → Type 0
KnowsMix seen place job =
    (bytes : List ℕ)
    → IsMixed (mixes.picture_of job) (mixes.matrix_of job) (mixes.format_of job) bytes
    → IsNoted seen place (mixes.number_of job) outcome.Ok (HasBytes (mixes.size_of job) bytes)

abbrev pub KnowsMixDone : List Item → (place : ℕ) → CoreMixDone → Type 0
KnowsMixDone seen place done =
    IsNoted seen place (mixes.done_number done) outcome.Ok (HasBytes (mixes.done_size done) (mixes.pixels_of done))

-- so with a render
abbrev pub KnowsRender : List Item → (place : ℕ) → CoreRender → Type 0
KnowsRender seen place job =
    (outcome : Outcome) (picture : Picture)
    → IsOutcome (renders.given_of job) (renders.payloads_of job) outcome picture
    → IsNoted seen place (renders.number_of job) outcome (HasPicture (renders.given_of job).size picture)

abbrev pub KnowsRenderDone : List Item → (place : ℕ) → CoreRenderDone → Type 0
KnowsRenderDone seen place done =
    IsNoted seen place (renders.done_number done) (renders.outcome_of done) (HasPicture (renders.done_size done) (renders.picture_of done))
