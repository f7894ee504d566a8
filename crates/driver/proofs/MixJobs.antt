-- Mixes on the shared driver: what is known of one when it is begun, run and ended.
use Rattle.std.proofs.Common.{◌≡◌, ℕ, ◌++◌, List, [], ◌∷◌, length, Option, Some, None, Ok, option_map, refl, ap, sym, ◌∙◌, subst}
use mathlib.Core.List.{IsPrefix}
use Rattle.cb_types.specs.declared.size.SizeMbs.{SizeMbs}
use Rattle.decoder_render.specs.declared.outcome.Outcome.TheVariants as outcome
use Rattle.device_lock.specs.Numbers.{Knows}
use Rattle.device_lock.specs.Views.{IsSamePass}
use Rattle.device_lock.specs.declared.view.View.{View}
use Rattle.driver_core.proofs.Comings.{mixed_with}
use Rattle.driver_core.specs.Begun.{BeginMix, BeginsMix}
use Rattle.driver_core.specs.Ended.{EndMix}
use Rattle.driver_core.specs.Owed.{OwesPixels}
use Rattle.driver_core.specs.declared.answer.CoreAnswer.{CoreAnswer}
use Rattle.driver_core.specs.declared.answer.CoreBegin.{CoreBegin}
use Rattle.driver_core.specs.declared.answer.CoreBegin.TheVariants.{Job}
use Rattle.driver_core.specs.declared.driver.Core.{Core}
use Rattle.driver_jobs.specs.Mixes as mixes
use Rattle.driver_jobs.specs.declared.mixes.CoreMix.{CoreMix}
use Rattle.driver_jobs.specs.declared.mixes.CoreMixDone.{CoreMixDone}
use Rattle.driver_model.specs.Ends.{IsReplyOfJob, mark_of}
use Rattle.driver_model.specs.Histories.{IsStateOf}
use Rattle.driver_model.specs.Jobs.{reply_of}
use Rattle.driver_model.specs.Objects.{OutputSurface, as_output}
use Rattle.driver_model.specs.Passes.{caller_of}
use Rattle.driver_model.specs.States.{State, content_at}
use Rattle.driver_model.specs.declared.calls.Call.TheVariants.{Mix}
use Rattle.driver_model.specs.declared.items.Item.{Item}
use Rattle.driver_model.specs.declared.items.Item.TheVariants.{Called}
use Rattle.driver_model.specs.declared.replies.Answer.TheVariants.{Done}
use Rattle.driver.proofs.Jobs.{begin_begun, ends_at, goes_on_at, is_out, noted, runs}
use Rattle.driver.specs.InHand.{HasBytes, IsBegun, IsNoted, KnowsMix, KnowsMixDone}
use Rattle.driver.specs.Standing.{StandsAt}

abbrev pub begun_as : List ℕ → (mixer structure video output : ℕ) → Item
begun_as caller mixer structure video output = Called (record { caller = caller; call = Mix mixer structure video output; reply = Ok Done })

module _ (core : Core) (front : List Item) (d : State) (caller : List ℕ) (mixer structure video output : ℕ) (job : CoreMix)
    (leads : IsStateOf front d) (begins : BeginsMix core d caller mixer structure video output job) where
  -- The core stands behind the beginning.
  pub mix_stands : StandsAt core (front ++ begun_as caller mixer structure video output ∷ [])
  mix_stands =
      let t = begins.takes in
      goes_on_at core front d caller (Mix mixer structure video output) (Ok Done) leads (record { after = t.after; step = t.step; stands = t.stands })

  -- and the job knows what it owes there
  pub mix_knows : KnowsMix (front ++ begun_as caller mixer structure video output ∷ []) (length front) job
  mix_knows bytes mixed =
      let t = mixed_with core d caller mixer structure video output job begins bytes mixed in
      noted core front d caller (Mix mixer structure video output) outcome.Ok (mixes.number_of job) (λ after note. OwesPixels after note begins.on.output.value.size bytes)
      (HasBytes (mixes.size_of job) bytes) leads t
      (λ note comes owes. (
        ap (option_map (λ (s : OutputSurface). s.size)) owes.there ∙ ap (λ z. Some z) (owes.of_size ∙ sym begins.size),
        ap (option_map (λ (s : OutputSurface). s.bytes)) owes.there ∙ ap (λ z. Some z) owes.owed,
      ))

-- so where the core has answered a job
pub mix_begun : (old new : Core) (front : List Item) (caller : List ℕ) (mixer structure video output : ℕ) (answer : CoreBegin CoreMix) (job : CoreMix)
    → answer ≡ Job job → BeginMix old new mixer structure video output answer → StandsAt old front
    → StandsAt new (front ++ begun_as caller mixer structure video output ∷ []) × KnowsMix (front ++ begun_as caller mixer structure video output ∷ []) (length front) job
mix_begun old new front caller mixer structure video output answer job is asked s =
    let begins : BeginsMix new s.state caller mixer structure video output job =
    begin_begun old new front caller (Mix mixer structure video output) None (λ d of. BeginsMix new d caller mixer structure video output of) answer (λ d stands. asked d caller stands) s job is
    in
    (mix_stands new front s.state caller mixer structure video output job s.leads begins, mix_knows new front s.state caller mixer structure video output job s.leads begins)

-- what is known of a mix when it was run
pub mix_done : (seen : List Item) (place : ℕ) (job : CoreMix) (done : CoreMixDone) → KnowsMix seen place job → mixes.IsDoneOf job done → KnowsMixDone seen place done
mix_done seen place job done knows is =
    subst (λ n. IsNoted seen place n outcome.Ok (HasBytes (mixes.done_size done) (mixes.pixels_of done))) (sym is.number)
    (subst (λ z. IsNoted seen place (mixes.number_of job) outcome.Ok (HasBytes z (mixes.pixels_of done))) (sym is.size) (knows (mixes.pixels_of done) is.pixels))

-- what an output surface has that is there
surface_of : (o : Option OutputSurface) (size : SizeMbs) (bytes : List ℕ) → option_map (λ s. s.size) o ≡ Some size → option_map (λ s. s.bytes) o ≡ Some bytes
    → (surface : OutputSurface) × (o ≡ Some surface) × (surface.size ≡ size) × (surface.bytes ≡ bytes)
surface_of None size bytes a b = absurd cc
surface_of (Some surface) size bytes a b = (surface, refl, cc, cc)

-- Where its caller has its turn again, the end of a mix leaves the core standing behind its mark.
pub mix_ends : (old new : Core) (v w : View Item) (place : ℕ) (done : CoreMixDone) (answer : CoreAnswer (Unit {0}))
    → IsBegun v place → KnowsMixDone v.seen place done → IsPrefix v.seen w.seen → IsSamePass v w → Knows caller_of w
    → StandsAt old w.seen → EndMix old new done answer
    → StandsAt new (w.seen ++ mark_of w place ∷ []) × IsReplyOfJob v.seen place v.number (reply_of outcome.Ok)
mix_ends old new v w place done answer begun known grows stays knows stands ends =
    let t = stands.state in
    let r = runs v w place begun grows stays knows t stands.leads in
    let is = known r.before r.index r.note r.leads r.there r.at_place in
    let surface = surface_of (content_at r.before as_output r.note.target) (mixes.done_size done) (mixes.pixels_of done) is.2.0 is.2.1 in
    let owes : OwesPixels t r.note (mixes.done_size done) (mixes.pixels_of done) =
    record { surface = surface.0; there = r.keeps.output surface.0 surface.1; of_size = surface.2; owed = surface.3 }
    in (
      ends_at new v w place t stands.leads r (ends.1 t r.note stands.stands (is_out v w place (mixes.done_number done) t stands.leads r is.0) is.1 owes) stays.0,
      subst (λ o. IsReplyOfJob v.seen place v.number (reply_of o)) is.1 r.replies,
    )
