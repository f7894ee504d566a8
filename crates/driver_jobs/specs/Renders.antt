-- What a contract sees of a render, and what is done when it was run.
use Rattle.std.specs.Prelude.{◌≡◌, ℕ, List, Option}
use Rattle.cb_types.specs.declared.size.SizeMbs.{SizeMbs}
use Rattle.decoder_render.specs.Coverage.{Given, given}
use Rattle.decoder_render.specs.Outcomes.{IsOutcome}
use Rattle.decoder_render.specs.Prepared as prepared
use Rattle.decoder_render.specs.declared.outcome.Outcome.{Outcome}
use Rattle.recon.specs.References.{pictures_of}
use Rattle.vd_plane.specs.declared.picture.Picture.{Picture}
use Rattle.driver_jobs.specs.declared.renders.CoreRender.{CoreRender}
use Rattle.driver_jobs.specs.declared.renders.CoreRenderDone.{CoreRenderDone}

abbrev pub number_of : CoreRender → ℕ
number_of job = job.number

-- its info, its size, and the samples of its references
abbrev pub given_of : CoreRender → Given
given_of job = given job.info job.size (pictures_of job.refs)

-- the payloads of its units, none of a spoiled one
abbrev pub payloads_of : CoreRender → List (Option (List ℕ))
payloads_of job = prepared.units_of job.prepared

-- the picture whose memory it holds
abbrev pub held_by : CoreRender → Picture
held_by job = prepared.picture_of job.prepared

abbrev pub done_number : CoreRenderDone → ℕ
done_number done = done.number

abbrev pub done_size : CoreRenderDone → SizeMbs
done_size done = done.size

abbrev pub outcome_of : CoreRenderDone → Outcome
outcome_of done = done.outcome

abbrev pub picture_of : CoreRenderDone → Picture
picture_of done = done.picture

-- It has the job's number and size, and the outcome and the picture are what its units come to.
pub record IsDoneOf (job : CoreRender) (done : CoreRenderDone) : Type 0 where
  pub number : done_number done ≡ number_of job
  pub size : done_size done ≡ (given_of job).size
  pub outcome : IsOutcome (given_of job) (payloads_of job) (outcome_of done) (picture_of done)
