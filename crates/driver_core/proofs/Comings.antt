-- What a job comes to is one, so that what is done of it is what its beginning came to.
use Rattle.std.proofs.Common.{◌≡◌, ℕ, true, List, ap, sym, ◌∙◌, subst}
use mathlib.Core.Bool.{false≢true}
use Rattle.cb_types.specs.AcceptedInfo.{IsAcceptedBySome}
use Rattle.cb_types.specs.SizeMbs.{IsWithinLimits}
use Rattle.cb_types.specs.declared.picture_info.PictureInfo.{PictureInfo}
use Rattle.decoder_render.proofs.OneOutcome.{outcome_one, whole_one}
use Rattle.decoder_render.specs.Outcomes.{IsOutcome}
use Rattle.decoder_render.specs.declared.outcome.Outcome.{Outcome}
use Rattle.decoder_render.specs.declared.outcome.Outcome.TheVariants as outcome
use Rattle.driver_core.specs.Begun.{BeginsMix, BeginsRender, TakesWith}
use Rattle.driver_core.specs.Comings.{MixesComeToTheirBeginnings, RendersComeToTheirBeginnings}
use Rattle.driver_core.specs.Owed.{OwesPicture, OwesPixels}
use Rattle.driver_core.specs.Stands.{is_ok}
use Rattle.driver_core.specs.declared.driver.Core.{Core}
use Rattle.driver_jobs.specs.Mixes as mixes
use Rattle.driver_jobs.specs.Renders as renders
use Rattle.driver_jobs.specs.declared.mixes.CoreMix.{CoreMix}
use Rattle.driver_jobs.specs.declared.renders.CoreRender.{CoreRender}
use Rattle.driver_model.specs.Jobs.{reply_of}
use Rattle.driver_model.specs.States.{State}
use Rattle.driver_model.specs.Steps.{Step}
use Rattle.driver_model.specs.declared.calls.Call.TheVariants.{Mix, Render}
use Rattle.mixer.proofs.Pixels.{pixels_are_all}
use Rattle.mixer.specs.Mixed.{IsMixed}
use Rattle.vd_plane.proofs.OnePicture.{picture_one}
use Rattle.vd_plane.specs.declared.picture.Picture.{Picture}

module _ (job : CoreRender) where
  ready : IsAcceptedBySome (renders.given_of job).info
  ready = (1, 16, job.ready)

  limits : IsWithinLimits (renders.given_of job).size
  limits = subst IsWithinLimits job.sized job.prepared.memory.size_is

  abbrev ComesTo : Outcome → Picture → Type 0
  ComesTo o picture = IsOutcome (renders.given_of job) (renders.payloads_of job) o picture

  one_outcome : (a b : Outcome) (p q : Picture) → ComesTo a p → ComesTo b q → a ≡ b
  one_outcome a b p q first second = outcome_one (renders.given_of job) (renders.payloads_of job) ready limits a b p q first second

  one_picture : (a : Outcome) (p q : Picture) → ComesTo a p → ComesTo a q → is_ok a ≡ true → p ≡ q
  one_picture outcome.Ok p q first second ok = picture_one p q (whole_one (renders.given_of job) (renders.payloads_of job) ready limits p q first second)
  one_picture (outcome.Bitstream slice) p q first second ok = absurd (false≢true ok)
  one_picture (outcome.Incomplete macroblocks) p q first second ok = absurd (false≢true ok)

module _ (core : Core) (d : State) (caller : List ℕ) (decoder target : ℕ) (info : PictureInfo) (bytes : List ℕ) (job : CoreRender)
    (begins : BeginsRender core d caller decoder target info bytes job) (o : Outcome) (picture : Picture) (comes : IsOutcome (renders.given_of job) (renders.payloads_of job) o picture) where
  same_outcome : begins.outcome ≡ o
  same_outcome = one_outcome job begins.outcome o begins.picture picture begins.comes_to comes

  same_picture : is_ok begins.outcome ≡ true → begins.picture ≡ picture
  same_picture = one_picture job begins.outcome begins.picture picture begins.comes_to (subst (λ a. IsOutcome (renders.given_of job) (renders.payloads_of job) a picture) (sym same_outcome) comes)

  -- whatever the job comes to, the core has taken the step that has that
  pub begun_with : TakesWith core d caller (Render decoder target info bytes) o (renders.number_of job) (λ after note. OwesPicture after note begins.on.decoder.value.size picture)
  begun_with =
      let t = begins.takes in
      let owes : OwesPicture t.after t.note begins.on.decoder.value.size picture = record {
        surface = t.owes.surface;
        there = t.owes.there;
        of_size = t.owes.of_size;
        owed = λ ok. t.owes.owed ok ∙ same_picture (sym (ap is_ok t.comes_to) ∙ ok);
      } in
      record {
        after = t.after;
        step = subst (λ a. Step d caller (Render decoder target info bytes) (reply_of a) t.after) same_outcome t.step;
        stands = t.stands;
        note = t.note;
        noted = t.noted;
        at_place = t.at_place;
        of_caller = t.of_caller;
        comes_to = t.comes_to ∙ same_outcome;
        numbered = t.numbered;
        owes = owes;
      }

module _ (core : Core) (d : State) (caller : List ℕ) (mixer structure video output : ℕ) (job : CoreMix)
    (begins : BeginsMix core d caller mixer structure video output job) (bytes : List ℕ) (mixed : IsMixed (mixes.picture_of job) (mixes.matrix_of job) (mixes.format_of job) bytes) where
  same_bytes : begins.bytes ≡ bytes
  same_bytes = pixels_are_all (mixes.picture_of job) (mixes.matrix_of job) (mixes.format_of job) begins.bytes bytes begins.comes_to mixed

  pub mixed_with : TakesWith core d caller (Mix mixer structure video output) outcome.Ok (mixes.number_of job) (λ after note. OwesPixels after note begins.on.output.value.size bytes)
  mixed_with =
      subst (λ b. TakesWith core d caller (Mix mixer structure video output) outcome.Ok (mixes.number_of job) (λ after note. OwesPixels after note begins.on.output.value.size b)) same_bytes begins.takes

-- ---- the laws

pub renders_come_to_their_beginnings : RendersComeToTheirBeginnings
renders_come_to_their_beginnings core d caller decoder target info bytes job done begins is =
    let o = renders.outcome_of done in
    let picture = renders.picture_of done in
    (sym (same_outcome core d caller decoder target info bytes job begins o picture is.outcome), λ ok. sym (same_picture core d caller decoder target info bytes job begins o picture is.outcome ok))

pub mixes_come_to_their_beginnings : MixesComeToTheirBeginnings
mixes_come_to_their_beginnings core d caller mixer structure video output job done begins is =
    sym (same_bytes core d caller mixer structure video output job begins (mixes.pixels_of done) is.pixels)
