-- The step of a render that is begun.
use Rattle.std.proofs.Common.{◌≡◌, ℕ, ◌==◌, ◌||◌, ◌++◌, Bool, true, false, not, List, [], ◌∷◌, length, map, slice_get, Option, Some, Result, Ok, Err, IfOk, IfErr, inl, inr, refl, sym, ap, ◌∙◌, subst, arith, eqb-true}
use mathlib.Core.Bool.{false≢true}
use Rattle.std.specs.Option.{option_and_then}
use Rattle.std.specs.Result.{IsOkAnd}
use Rattle.cb_types.specs.SizeMbs.{IsWithinLimits}
use Rattle.cb_types.specs.declared.picture_info.PictureInfo.{PictureInfo}
use Rattle.cb_types.specs.declared.size.SizeMbs.{SizeMbs}
use Rattle.decoder_render.specs.Coverage.{given}
use Rattle.decoder_render.specs.Outcomes.{IsOutcome}
use Rattle.decoder_render.specs.Submission.{ArePayloads}
use Rattle.decoder_render.specs.declared.outcome.Outcome.{Outcome}
use Rattle.decoder_render.specs.declared.outcome.Outcome.TheVariants as outcome
use Rattle.decoder_render.proofs.OneReading.{payloads_one}
use Rattle.driver_jobs.specs.Renders as jobs
use Rattle.driver_jobs.specs.Units.{HasUnits}
use Rattle.driver_jobs.specs.declared.renders.CoreRender.{CoreRender}
use Rattle.vd_plane.specs.Picture.{IsZeros}
use Rattle.vd_plane.specs.declared.picture.Picture.{Picture}
use Rattle.vd_status.specs.declared.refusal.Refusal.{Refusal}
use Rattle.vd_status.specs.declared.refusal.Refusal.TheVariants.{OutOfMemory, SliceCount}
use Rattle.driver_model.specs.Answers.{IsRefused}
use Rattle.driver_model.specs.Jobs.{reply_of}
use Rattle.driver_model.specs.Objects as model
use Rattle.driver_model.specs.Refusals.{refused_if}
use Rattle.driver_model.specs.Renders.{Counts, Decodes, Rendering, decoded, given_now, is_render_held, render, units_counted}
use Rattle.driver_model.specs.Sizes.{is_same_size}
use Rattle.driver_model.specs.States.{Found, Note, State, content_at, free_number, is_out, with_content, with_note}
use Rattle.driver_model.specs.Steps.{Step}
use Rattle.driver_model.specs.Waits.{Waits}
use Rattle.driver_model.specs.declared.calls.Call.TheVariants as call
use Rattle.driver_model.proofs.SizedLooks.{render_sizes}
use Rattle.render_outcomes.proofs.OutcomesExist.{outcomes_exist}
use Rattle.driver_objects.specs.Kept.{kept_of}
use Rattle.driver_objects.specs.References.{some_written}
use Rattle.driver_objects.specs.declared.references.Rendering.{Rendering as KeptRendering}
use Rattle.driver_core.specs.Begun.{BeginsRender, TakesWith}
use Rattle.driver_core.specs.Owed.{OwesPicture}
use Rattle.driver_core.specs.RenderStarts.{HoldsRender, IsStart, WantsMemory}
use Rattle.driver_core.specs.Rendered.{IsRendering, Sees}
use Rattle.driver_core.specs.Stands.{Stands}
use Rattle.driver_core.specs.declared.answer.CoreAnswer.TheVariants.{Now}
use Rattle.driver_core.specs.declared.driver.Core.{Core}
use Rattle.driver_core.proofs.ContentStands.{get_changed_same}
use Rattle.driver_core.proofs.LentReferences.{lent_pictures}
use Rattle.driver_core.proofs.RenderTests.{held_is}
use Rattle.driver_core.proofs.Steps.{finding, refusing}

-- ---- small facts

or_later : (a b : Bool) → (a || b) ≡ false → b ≡ false
or_later a b is = grind (arith, is)

same_size : (a b : SizeMbs) → is_same_size a b ≡ true → a ≡ b
same_size a b e =
    let wide : (a.width == b.width) ≡ true = grind (arith, e) in
    let high : (a.height == b.height) ≡ true = grind (arith, e) in
    λ i. record { width = eqb-true a.width b.width wide i; height = eqb-true a.height b.height high i }

-- what is decoded into the target changes no note, and counts no item
decoded_notes : (d : State) (target : Found model.VideoSurface) (picture : Picture) (o : Outcome) → (decoded d target picture o).notes ≡ d.notes
decoded_notes d target picture outcome.Ok = refl
decoded_notes d target picture (outcome.Bitstream slice) = refl
decoded_notes d target picture (outcome.Incomplete macroblocks) = refl

decoded_items : (d : State) (target : Found model.VideoSurface) (picture : Picture) (o : Outcome) → (decoded d target picture o).items ≡ d.items
decoded_items d target picture outcome.Ok = refl
decoded_items d target picture (outcome.Bitstream slice) = refl
decoded_items d target picture (outcome.Incomplete macroblocks) = refl

-- bytes have one number of units
units_one : (bytes : List ℕ) (payloads : List (Option (List ℕ))) (units count : ℕ) → HasUnits bytes units → ArePayloads bytes payloads → (units == count) ≡ true → (length payloads == count) ≡ true
units_one bytes payloads units count has are is = ap (λ n. n == count) (sym (has.2 ∙ ap length (payloads_one bytes has.0 payloads has.1 are))) ∙ is

-- ---- refusals

module _ (d : State) (caller : List ℕ) (decoder target : ℕ) (info : PictureInfo) (bytes : List ℕ) where
  pub no_memory : Step d caller (call.Render decoder target info bytes) (Err OutOfMemory) d
  no_memory = inl (refl, (refl, refl))

  pub look_refused : (refusal : Refusal) → render d decoder target info ≡ Err refusal → Step d caller (call.Render decoder target info bytes) (Err refusal) d
  look_refused refusal looks = inr (refusing (Counts d (Err refusal) d caller info bytes) (IsRefused d (Err refusal) d) (render d decoder target info) refusal looks (refl, refl))

  module _ (on : Rendering) (looks : render d decoder target info ≡ Ok on) (payloads : List (Option (List ℕ))) (are : ArePayloads bytes payloads) where
    pub count_refused : (length payloads == info.slice_count) ≡ false → Step d caller (call.Render decoder target info bytes) (Err (SliceCount (length payloads))) d
    count_refused other =
        let reply : Refusal = SliceCount (length payloads) in
        inr (finding (Counts d (Err reply) d caller info bytes) (IsRefused d (Err reply) d) (render d decoder target info) on looks (record {
          payloads = payloads;
          units = are;
          goes = refusing (λ nothing. Decodes d (Err reply) d caller info payloads on) (IsRefused d (Err reply) d) (units_counted info (length payloads)) reply (ap (λ b. refused_if (not b) reply) other) (refl, refl);
        }))

    module _ (counted : (length payloads == info.slice_count) ≡ true) where
      count_taken : units_counted info (length payloads) ≡ Ok tt
      count_taken = ap (λ b. refused_if (not b) (SliceCount (length payloads))) counted

      pub render_waits : is_render_held d on ≡ true → Waits d (call.Render decoder target info bytes)
      render_waits held =
          subst (λ looked. IsOkAnd looked (λ x. (ps : List (Option (List ℕ))) × ArePayloads bytes ps × IsOkAnd (units_counted info (length ps)) (λ nothing. is_render_held d x ≡ true))) (sym looks)
          (payloads, are, subst (λ looked. IsOkAnd looked (λ nothing. is_render_held d on ≡ true)) (sym count_taken) held)

      -- the step to the state that an outcome leaves
      pub render_step : (o : Outcome) (picture : Picture) → is_render_held d on ≡ false → IsOutcome (given_now info on) payloads o picture
          → Step d caller (call.Render decoder target info bytes) (reply_of o) (with_note (decoded d on.target picture o) caller on.target.place o)
      render_step o picture home is =
          let after : State = with_note (decoded d on.target picture o) caller on.target.place o in
          inr (finding (Counts d (reply_of o) after caller info bytes) (IsRefused d (reply_of o) after) (render d decoder target info) on looks (record {
            payloads = payloads;
            units = are;
            goes = finding (λ nothing. Decodes d (reply_of o) after caller info payloads on) (IsRefused d (reply_of o) after) (units_counted info (length payloads)) tt count_taken (record {
              at_home = home;
              outcome = o;
              picture = picture;
              is_outcome = is;
              tells = refl;
              after = refl;
            });
          }))

-- ---- the job

module _ (old new : Core) (decoder target : ℕ) (info : PictureInfo) (bytes : List ℕ) (at : KeptRendering) (sees : Sees old (λ d. render d decoder target info) at)
    (units : ℕ) (has : HasUnits bytes units) (counted : (units == info.slice_count) ≡ true) (home : some_written (kept_of old.objects) old.jobs.items at ≡ false)
    (count : length at.references ≡ 16) (job : CoreRender) (holds : HoldsRender old new at info bytes job) (d : State) (caller : List ℕ) (stands : Stands old d) where
  abbrev on : Rendering
  on = (sees d stands).0

  abbrev looks : render d decoder target info ≡ Ok on
  looks = (sees d stands).1

  abbrev seen : IsRendering old d at on
  seen = (sees d stands).2

  not_held : is_render_held d on ≡ false
  not_held = held_is old d at on seen stands ∙ home

  of_decoder : at.decoder.size ≡ on.decoder.value.size
  of_decoder = ap (λ (x : model.Decoder). x.size) (sym seen.decoder)

  of_target : on.target.value.size ≡ on.decoder.value.size
  of_target = same_size on.target.value.size on.decoder.value.size (render_sizes d decoder target info on looks)

  -- the job's pictures are the references' samples of now
  held_now : jobs.given_of job ≡ given_now info on
  held_now =
      let references_home = or_later (is_out d on.target.place) _ not_held in
      let pictures = lent_pictures old d at.references on.references holds.pictures seen.references (holds.count ∙ sym count) (λ place lt. holds.lent place (omega (arith, lt, count))) references_home in
      holds.given ∙ (λ i. given info (of_decoder i) (pictures i))

  outcome_now : (o : Outcome) (picture : Picture) → IsOutcome (jobs.given_of job) (jobs.payloads_of job) o picture → IsOutcome (given_now info on) (jobs.payloads_of job) o picture
  outcome_now o picture is = subst (λ g. IsOutcome g (jobs.payloads_of job) o picture) held_now is

  abbrev after : Outcome → Picture → State
  after o picture = with_note (decoded d on.target picture o) caller on.target.place o

  abbrev with_samples : Picture → model.VideoSurface
  with_samples picture = record on.target.value { picture = picture }

  stands_after : (o : Outcome) (picture : Picture) → Stands new (after o picture)
  stands_after outcome.Ok picture =
      let t = seen.target in
      let content = model.VideoObject (with_samples picture) in
      let has : content_at d model.as_video t.object.place ≡ Some on.target.value = subst (λ p. content_at d model.as_video p ≡ Some on.target.value) (sym t.at_place) t.stands in
      subst (λ p. Stands new (with_note (with_content d p content) caller p outcome.Ok)) t.at_place (holds.picture d caller t.object content stands t.there (on.target.value, picture, has, refl))
  stands_after (outcome.Bitstream slice) picture =
      let t = seen.target in
      subst (λ p. Stands new (with_note d caller p (outcome.Bitstream slice))) t.at_place (holds.nothing d caller t.object (outcome.Bitstream slice) stands t.there)
  stands_after (outcome.Incomplete macroblocks) picture =
      let t = seen.target in
      subst (λ p. Stands new (with_note d caller p (outcome.Incomplete macroblocks))) t.at_place (holds.nothing d caller t.object (outcome.Incomplete macroblocks) stands t.there)

  abbrev note_of : Outcome → Picture → Note
  note_of o picture = record {
    place = (decoded d on.target picture o).items;
    caller = caller;
    target = on.target.place;
    outcome = o;
    number = free_number (map (λ other. other.number) (decoded d on.target picture o).notes);
  }

  owes_after : (o : Outcome) (picture : Picture) → OwesPicture (after o picture) (note_of o picture) on.decoder.value.size picture
  owes_after outcome.Ok picture =
      let t = seen.target in
      let k = stands.kept at.target t.object t.there in
      let one_at : slice_get d.objects on.target.place ≡ Some k.0 = subst (λ p. slice_get d.objects p ≡ Some k.0) t.at_place k.1 in
      record {
        surface = with_samples picture;
        there = ap (option_and_then (λ (one : model.Object). model.as_video one.content)) (get_changed_same (λ (one : model.Object). record one { content = model.VideoObject (with_samples picture) }) on.target.place d.objects k.0 one_at);
        of_size = of_target;
        owed = λ ok. refl;
      }
  owes_after (outcome.Bitstream slice) picture = record { surface = on.target.value; there = seen.target.stands; of_size = of_target; owed = λ ok. absurd (false≢true ok) }
  owes_after (outcome.Incomplete macroblocks) picture = record { surface = on.target.value; there = seen.target.stands; of_size = of_target; owed = λ ok. absurd (false≢true ok) }

  takes : (o : Outcome) (picture : Picture) → IsOutcome (jobs.given_of job) (jobs.payloads_of job) o picture
      → TakesWith new d caller (call.Render decoder target info bytes) o (jobs.number_of job) (λ then note. OwesPicture then note on.decoder.value.size picture)
  takes o picture is = record {
    after = after o picture;
    step = render_step d caller decoder target info bytes on looks (jobs.payloads_of job) holds.units (units_one bytes (jobs.payloads_of job) units info.slice_count has holds.units counted) o picture not_held (outcome_now o picture is);
    stands = stands_after o picture;
    note = note_of o picture;
    noted = ap (λ notes. notes ++ note_of o picture ∷ []) (decoded_notes d on.target picture o);
    at_place = decoded_items d on.target picture o;
    of_caller = refl;
    comes_to = refl;
    numbered = ap (λ (notes : List Note). free_number (map (λ other. other.number) notes)) (decoded_notes d on.target picture o) ∙ sym (holds.numbered d stands);
    owes = owes_after o picture;
  }

  -- what the job's units come to, which exists
  comes : (o : Outcome) × (picture : Picture) × IsOutcome (jobs.given_of job) (jobs.payloads_of job) o picture
  comes = outcomes_exist (jobs.given_of job) (jobs.payloads_of job) (1, 16, job.ready) (subst IsWithinLimits job.sized job.prepared.memory.size_is)

  pub begins : BeginsRender new d caller decoder target info bytes job
  begins = record {
    on = on;
    looks = looks;
    units = holds.units;
    holds = held_now;
    zeros = subst (λ (size : SizeMbs). IsZeros (jobs.held_by job) size.width size.height) of_decoder holds.zeros;
    outcome = comes.0;
    picture = comes.1;
    comes_to = comes.2;
    takes = takes comes.0 comes.1 comes.2;
  }

-- what the start answers, where nothing was refused and nothing has to be waited for
module _ (old new : Core) (decoder target : ℕ) (info : PictureInfo) (bytes : List ℕ) (at : KeptRendering) (sees : Sees old (λ d. render d decoder target info) at)
    (units : ℕ) (has : HasUnits bytes units) (counted : (units == info.slice_count) ≡ true) (home : some_written (kept_of old.objects) old.jobs.items at ≡ false)
    (count : length at.references ≡ 16) (d : State) (caller : List ℕ) (stands : Stands old d) where
  pub started : (result : Result CoreRender Refusal) → IfOk result (HoldsRender old new at info bytes) → IfErr result (WantsMemory old new) → IsStart new d caller decoder target info bytes (Now result)
  started (Ok job) holds none = begins old new decoder target info bytes at sees units has counted home count job holds d caller stands
  started (Err refusal) none wants = (subst (λ r. Step d caller (call.Render decoder target info bytes) (Err r) d) (sym wants.0) (no_memory d caller decoder target info bytes), wants.1 d stands)
