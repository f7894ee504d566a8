-- Renders on the shared driver: what is known of one when it is begun, run and ended.
use Rattle.std.proofs.Common.{◌≡◌, ℕ, ◌++◌, List, [], ◌∷◌, length, Option, Some, None, option_map, refl, ap, sym, ◌∙◌, subst}
use mathlib.Core.List.{IsPrefix}
use Rattle.cb_types.specs.AcceptedInfo.{IsAcceptedBySome}
use Rattle.cb_types.specs.SizeMbs.{IsWithinLimits}
use Rattle.cb_types.specs.declared.picture_info.PictureInfo.{PictureInfo}
use Rattle.cb_types.specs.declared.size.SizeMbs.{SizeMbs}
use Rattle.decoder_render.proofs.OneOutcome.{outcome_one}
use Rattle.decoder_render.specs.Outcomes.{IsOutcome}
use Rattle.decoder_render.specs.declared.outcome.Outcome.{Outcome}
use Rattle.device_lock.specs.Numbers.{Knows}
use Rattle.device_lock.specs.Views.{IsSamePass}
use Rattle.device_lock.specs.declared.view.View.{View}
use Rattle.driver_core.proofs.Comings.{begun_with}
use Rattle.driver_core.specs.Begun.{BeginRender, BeginsRender}
use Rattle.driver_core.specs.Ended.{EndRender}
use Rattle.driver_core.specs.Owed.{OwesPicture}
use Rattle.driver_core.specs.declared.answer.CoreAnswer.{CoreAnswer}
use Rattle.driver_core.specs.declared.answer.CoreBegin.{CoreBegin}
use Rattle.driver_core.specs.declared.answer.CoreBegin.TheVariants.{Job}
use Rattle.driver_core.specs.declared.driver.Core.{Core}
use Rattle.driver_jobs.specs.Renders as renders
use Rattle.driver_jobs.specs.declared.renders.CoreRender.{CoreRender}
use Rattle.driver_jobs.specs.declared.renders.CoreRenderDone.{CoreRenderDone}
use Rattle.driver_model.specs.Ends.{IsReplyOfJob, mark_of}
use Rattle.driver_model.specs.Histories.{IsStateOf}
use Rattle.driver_model.specs.Jobs.{reply_of}
use Rattle.driver_model.specs.Objects.{VideoSurface, as_video}
use Rattle.driver_model.specs.Passes.{caller_of}
use Rattle.driver_model.specs.States.{State, content_at}
use Rattle.driver_model.specs.declared.calls.Call.TheVariants.{Render}
use Rattle.driver_model.specs.declared.items.Item.{Item}
use Rattle.driver_model.specs.declared.items.Item.TheVariants.{Called}
use Rattle.render_outcomes.proofs.OutcomesExist.{outcomes_exist}
use Rattle.vd_plane.specs.declared.picture.Picture.{Picture}
use Rattle.driver.proofs.Jobs.{begin_begun, ends_at, goes_on_at, is_out, noted, runs}
use Rattle.driver.specs.InHand.{HasPicture, IsBegun, IsNoted, KnowsRender, KnowsRenderDone}
use Rattle.driver.specs.Standing.{StandsAt}

-- ---- what a render comes to

ready : (job : CoreRender) → IsAcceptedBySome (renders.given_of job).info
ready job = (1, 16, job.ready)

limits : (job : CoreRender) → IsWithinLimits (renders.given_of job).size
limits job = subst IsWithinLimits job.sized job.prepared.memory.size_is

pub comes_to : (job : CoreRender) → (outcome : Outcome) × (picture : Picture) × IsOutcome (renders.given_of job) (renders.payloads_of job) outcome picture
comes_to job = outcomes_exist (renders.given_of job) (renders.payloads_of job) (ready job) (limits job)

abbrev pub the_outcome : CoreRender → Outcome
the_outcome job = (comes_to job).0

abbrev pub the_picture : CoreRender → Picture
the_picture job = (comes_to job).1

pub is_its_outcome : (job : CoreRender) → IsOutcome (renders.given_of job) (renders.payloads_of job) (the_outcome job) (the_picture job)
is_its_outcome job = (comes_to job).2

one_outcome : (job : CoreRender) (outcome : Outcome) (picture : Picture) → IsOutcome (renders.given_of job) (renders.payloads_of job) outcome picture → the_outcome job ≡ outcome
one_outcome job outcome picture is =
    outcome_one (renders.given_of job) (renders.payloads_of job) (ready job) (limits job) (the_outcome job) outcome (the_picture job) picture (is_its_outcome job) is

-- ---- one that begins

abbrev pub begun_as : List ℕ → (decoder target : ℕ) → PictureInfo → List ℕ → Outcome → Item
begun_as caller decoder target info bytes outcome = Called (record { caller = caller; call = Render decoder target info bytes; reply = reply_of outcome })

module _ (core : Core) (front : List Item) (d : State) (caller : List ℕ) (decoder target : ℕ) (info : PictureInfo) (bytes : List ℕ) (job : CoreRender)
    (leads : IsStateOf front d) (begins : BeginsRender core d caller decoder target info bytes job) where
  -- The core stands behind the beginning.
  pub render_stands : StandsAt core (front ++ begun_as caller decoder target info bytes (the_outcome job) ∷ [])
  render_stands =
      let t = begun_with core d caller decoder target info bytes job begins (the_outcome job) (the_picture job) (is_its_outcome job) in
      goes_on_at core front d caller (Render decoder target info bytes) (reply_of (the_outcome job)) leads (record { after = t.after; step = t.step; stands = t.stands })

  -- and the job knows what it owes there
  pub render_knows : KnowsRender (front ++ begun_as caller decoder target info bytes (the_outcome job) ∷ []) (length front) job
  render_knows outcome picture is =
      let t = begun_with core d caller decoder target info bytes job begins outcome picture is in
      let size : (renders.given_of job).size ≡ begins.on.decoder.value.size = ap (λ (g : _). g.size) begins.holds in
      subst (λ o. IsNoted (front ++ begun_as caller decoder target info bytes o ∷ []) (length front) (renders.number_of job) outcome (HasPicture (renders.given_of job).size picture)) (sym (one_outcome job outcome picture is))
      (noted core front d caller (Render decoder target info bytes) outcome (renders.number_of job) (λ after note. OwesPicture after note begins.on.decoder.value.size picture)
      (HasPicture (renders.given_of job).size picture) leads t
      (λ note comes owes. (
        ap (option_map (λ (s : VideoSurface). s.size)) owes.there ∙ ap (λ z. Some z) (owes.of_size ∙ sym size),
        λ ok. ap (option_map (λ (s : VideoSurface). s.picture)) owes.there ∙ ap (λ z. Some z) (owes.owed ok),
      )))

-- so where the core has answered a job
pub render_begun : (old new : Core) (front : List Item) (caller : List ℕ) (decoder target : ℕ) (info : PictureInfo) (bytes : List ℕ) (answer : CoreBegin CoreRender) (job : CoreRender)
    → answer ≡ Job job → BeginRender old new decoder target info bytes answer → StandsAt old front
    → StandsAt new (front ++ begun_as caller decoder target info bytes (the_outcome job) ∷ []) × KnowsRender (front ++ begun_as caller decoder target info bytes (the_outcome job) ∷ []) (length front) job
render_begun old new front caller decoder target info bytes answer job is asked s =
    let begins : BeginsRender new s.state caller decoder target info bytes job =
    begin_begun old new front caller (Render decoder target info bytes) (Some bytes) (λ d of. BeginsRender new d caller decoder target info bytes of) answer (λ d stands. asked d caller stands) s job is
    in
    (render_stands new front s.state caller decoder target info bytes job s.leads begins, render_knows new front s.state caller decoder target info bytes job s.leads begins)

-- what is known of a render when it was run
pub render_done : (seen : List Item) (place : ℕ) (job : CoreRender) (done : CoreRenderDone) → KnowsRender seen place job → renders.IsDoneOf job done → KnowsRenderDone seen place done
render_done seen place job done knows is =
    subst (λ n. IsNoted seen place n (renders.outcome_of done) (HasPicture (renders.done_size done) (renders.picture_of done))) (sym is.number)
    (subst (λ z. IsNoted seen place (renders.number_of job) (renders.outcome_of done) (HasPicture z (renders.picture_of done))) (sym is.size) (knows (renders.outcome_of done) (renders.picture_of done) is.outcome))

-- ---- one that ends

size_of : (o : Option VideoSurface) (size : SizeMbs) → option_map (λ s. s.size) o ≡ Some size → (surface : VideoSurface) × (o ≡ Some surface) × (surface.size ≡ size)
size_of None size a = absurd cc
size_of (Some surface) size a = (surface, refl, cc)

picture_of : (o : Option VideoSurface) (surface : VideoSurface) (picture : Picture) → o ≡ Some surface → option_map (λ s. s.picture) o ≡ Some picture → surface.picture ≡ picture
picture_of None surface picture is a = absurd cc
picture_of (Some other) surface picture is a = cc

-- Where its caller has its turn again, the end of a render leaves the core standing behind its mark.
pub render_ends : (old new : Core) (v w : View Item) (place : ℕ) (done : CoreRenderDone) (answer : CoreAnswer (Unit {0}))
    → IsBegun v place → KnowsRenderDone v.seen place done → IsPrefix v.seen w.seen → IsSamePass v w → Knows caller_of w
    → StandsAt old w.seen → EndRender old new done answer
    → StandsAt new (w.seen ++ mark_of w place ∷ []) × IsReplyOfJob v.seen place v.number (reply_of (renders.outcome_of done))
render_ends old new v w place done answer begun known grows stays knows stands ends =
    let t = stands.state in
    let r = runs v w place begun grows stays knows t stands.leads in
    let is = known r.before r.index r.note r.leads r.there r.at_place in
    let surface = size_of (content_at r.before as_video r.note.target) (renders.done_size done) is.2.0 in
    let owes : OwesPicture t r.note (renders.done_size done) (renders.picture_of done) =
    record {
      surface = surface.0;
      there = r.keeps.video surface.0 surface.1;
      of_size = surface.2;
      owed = λ ok. picture_of (content_at r.before as_video r.note.target) surface.0 (renders.picture_of done) surface.1 (is.2.1 ok);
    }
    in (
      ends_at new v w place t stands.leads r (ends.1 t r.note stands.stands (is_out v w place (renders.done_number done) t stands.leads r is.0) is.1 owes) stays.0,
      subst (λ o. IsReplyOfJob v.seen place v.number (reply_of o)) is.1 r.replies,
    )
