-- Jobs between their beginning and their end: their notes stay, and when one is run, its note tells what it has come to.
use Rattle.std.proofs.Common.{◌≡◌, ℕ, true, List, Some, slice_get, ap, sym, ◌∙◌, subst}
use Rattle.std.proofs.lemmas.Bool.{false≢true}
use Rattle.cb_types.specs.AcceptedInfo.{IsAcceptedBySome}
use Rattle.cb_types.specs.SizeMbs.{IsWithinLimits}
use Rattle.cb_types.specs.declared.size.SizeMbs.{SizeMbs}
use Rattle.decoder_render.proofs.OneOutcome.{outcome_one, whole_one}
use Rattle.decoder_render.specs.Outcomes.{IsOutcome}
use Rattle.decoder_render.specs.declared.outcome.Outcome.{Outcome}
use Rattle.decoder_render.specs.declared.outcome.Outcome.TheVariants as outcome
use Rattle.driver_jobs.specs.Mixes as mixes
use Rattle.driver_jobs.specs.Renders as renders
use Rattle.driver_jobs.specs.declared.mixes.CoreMix.{CoreMix}
use Rattle.driver_jobs.specs.declared.mixes.CoreMixDone.{CoreMixDone}
use Rattle.driver_jobs.specs.declared.renders.CoreRender.{CoreRender}
use Rattle.driver_jobs.specs.declared.renders.CoreRenderDone.{CoreRenderDone}
use Rattle.mixer.proofs.Pixels.{pixels_are_all}
use Rattle.vd_plane.proofs.OnePicture.{picture_one}
use Rattle.vd_plane.specs.declared.picture.Picture.{Picture}
use Rattle.driver_model.specs.Owed.{KeepsSurface}
use Rattle.driver_model.specs.States.{Note, State}
use Rattle.driver_core.specs.Owed.{OwesPicture, OwesPixels}
use Rattle.driver_core.specs.Stands.{is_ok}
use Rattle.core_runs.specs.Deeds.{Held, IsRunTo, Mixed, OpenJob, Rendered, ToMix, ToRender}
use Rattle.core_runs.specs.Histories.{IsNoteOf, IsNoted}

-- ---- notes stay

-- what a note says while its surface stays
module _ (s t : State) (note : Note) (keeps : KeepsSurface s t note.target) where
  pub picture_stays : (size : SizeMbs) (picture : Picture) → OwesPicture s note size picture → OwesPicture t note size picture
  picture_stays size picture owes = record { surface = owes.surface; there = keeps.video owes.surface owes.there; of_size = owes.of_size; owed = owes.owed }

  pub pixels_stay : (size : SizeMbs) (bytes : List ℕ) → OwesPixels s note size bytes → OwesPixels t note size bytes
  pixels_stay size bytes owes = record { surface = owes.surface; there = keeps.output owes.surface owes.there; of_size = owes.of_size; owed = owes.owed }

  pub note_stays : (held : Held) → IsNoteOf held s note → IsNoteOf held t note
  note_stays (ToRender job) is = (is.0, is.1, is.2, is.3, is.4, picture_stays (renders.given_of job).size is.1 is.5)
  note_stays (Rendered done) is = (is.0, is.1, picture_stays (renders.done_size done) (renders.picture_of done) is.2)
  note_stays (ToMix job) is = (is.0, is.1, is.2, is.3, pixels_stay (mixes.size_of job) is.0 is.4)
  note_stays (Mixed done) is = (is.0, is.1, pixels_stay (mixes.done_size done) (mixes.pixels_of done) is.2)

pub noted_still : (s t : State) (job : OpenJob) (is : IsNoted s job)
    → ((index : ℕ) × (slice_get t.notes index ≡ Some is.note)) × KeepsSurface s t is.note.target → IsNoted t job
noted_still s t job is kept =
    record {
      index = kept.0.0;
      note = is.note;
      there = kept.0.1;
      at_place = is.at_place;
      of_caller = is.of_caller;
      owes = note_stays s t is.note kept.1 job.held is.owes;
    }

-- ---- jobs that are run

pub ready : (job : CoreRender) → IsAcceptedBySome (renders.given_of job).info
ready job = (1, 16, job.ready)

pub limits : (job : CoreRender) → IsWithinLimits (renders.given_of job).size
limits job = subst IsWithinLimits job.sized job.prepared.memory.size_is

-- A render comes to one outcome, and to one picture where that is Ok.
pub one_outcome : (job : CoreRender) (a b : Outcome) (p q : Picture) → IsOutcome (renders.given_of job) (renders.payloads_of job) a p → IsOutcome (renders.given_of job) (renders.payloads_of job) b q → a ≡ b
one_outcome job a b p q is also = outcome_one (renders.given_of job) (renders.payloads_of job) (ready job) (limits job) a b p q is also

one_picture : (job : CoreRender) (outcome : Outcome) (p q : Picture) → IsOutcome (renders.given_of job) (renders.payloads_of job) outcome p → IsOutcome (renders.given_of job) (renders.payloads_of job) outcome q
    → is_ok outcome ≡ true → p ≡ q
one_picture job outcome.Ok p q is also ok = picture_one p q (whole_one (renders.given_of job) (renders.payloads_of job) (ready job) (limits job) p q is also)
one_picture job (outcome.Bitstream slice) p q is also ok = absurd (false≢true ok)
one_picture job (outcome.Incomplete macroblocks) p q is also ok = absurd (false≢true ok)

render_done : (s : State) (note : Note) (job : CoreRender) (done : CoreRenderDone) → renders.IsDoneOf job done → IsNoteOf (ToRender job) s note → IsNoteOf (Rendered done) s note
render_done s note job done is noted =
    let one : noted.0 ≡ renders.outcome_of done = one_outcome job noted.0 (renders.outcome_of done) noted.1 (renders.picture_of done) noted.2 is.outcome in
    let same : is_ok (renders.outcome_of done) ≡ true → noted.1 ≡ renders.picture_of done =
    one_picture job (renders.outcome_of done) noted.1 (renders.picture_of done) (subst (λ o. IsOutcome (renders.given_of job) (renders.payloads_of job) o noted.1) one noted.2) is.outcome
    in
    let owes = noted.5 in (
      noted.3 ∙ sym is.number,
      noted.4 ∙ one,
      record {
        surface = owes.surface;
        there = owes.there;
        of_size = owes.of_size ∙ sym is.size;
        owed = λ ok. owes.owed ok ∙ same (sym (ap is_ok (noted.4 ∙ one)) ∙ ok);
      },
    )

mix_done : (s : State) (note : Note) (job : CoreMix) (done : CoreMixDone) → mixes.IsDoneOf job done → IsNoteOf (ToMix job) s note → IsNoteOf (Mixed done) s note
mix_done s note job done is noted =
    let one : noted.0 ≡ mixes.pixels_of done = pixels_are_all (mixes.picture_of job) (mixes.matrix_of job) (mixes.format_of job) noted.0 (mixes.pixels_of done) noted.1 is.pixels in
    let owes = noted.4 in (
      noted.2 ∙ sym is.number,
      noted.3,
      record { surface = owes.surface; there = owes.there; of_size = owes.of_size ∙ sym is.size; owed = owes.owed ∙ one },
    )

pub runs_to : (s : State) (note : Note) (held done : Held) → IsRunTo held done → IsNoteOf held s note → IsNoteOf done s note
runs_to s note (ToRender job) (Rendered done) is noted = render_done s note job done is noted
runs_to s note (ToMix job) (Mixed done) is noted = mix_done s note job done is noted
runs_to s note (ToRender job) (ToRender other) is noted = absurd is
runs_to s note (ToRender job) (ToMix other) is noted = absurd is
runs_to s note (ToRender job) (Mixed other) is noted = absurd is
runs_to s note (ToMix job) (ToRender other) is noted = absurd is
runs_to s note (ToMix job) (Rendered other) is noted = absurd is
runs_to s note (ToMix job) (ToMix other) is noted = absurd is
runs_to s note (Rendered job) done is noted = absurd is
runs_to s note (Mixed job) done is noted = absurd is
