-- Two renders of one submission from one state.
use Rattle.std.proofs.Common.{◌≡◌, ℕ, zero, suc, ◌<◌, ◌≤◌, Bool, true, false, not, List, [], ◌∷◌, length, get_or, Option, Some, None, Ok, Err, refl, ap, sym, ◌∙◌, subst, arith}
use Rattle.std.proofs.lemmas.Bool.Decides.{nat_tests}
use Rattle.std.specs.List.{position, position_or_len}
use Rattle.cb_types.specs.AcceptedInfo.{IsAcceptedBySome, accepted_fields}
use Rattle.cb_types.specs.SizeMbs.{IsWithinLimits}
use Rattle.cb_types.specs.declared.picture_info.PictureInfo.{PictureInfo}
use Rattle.decoder_render.specs.Coverage.{Given}
use Rattle.decoder_render.specs.Outcomes.{IsOutcome}
use Rattle.decoder_render.specs.declared.outcome.Outcome.{Outcome}
use Rattle.decoder_render.specs.declared.outcome.Outcome.TheVariants as outcome
use Rattle.decoder_render.proofs.OneOutcome.{outcome_one, whole_one}
use Rattle.decoder_render.proofs.OneReading.{payloads_one}
use Rattle.vd_plane.specs.declared.picture.Picture.{Picture}
use Rattle.vd_status.specs.declared.refusal.Refusal.TheVariants.{BadInfo, BadSize, TargetIsReference}
use Rattle.driver_model.specs.Answers.{Goes, Reply}
use Rattle.driver_model.specs.Jobs.{reply_of}
use Rattle.driver_model.specs.Laws.{HasSizes}
use Rattle.driver_model.specs.Objects.{Decoder, VideoSurface, as_decoder, as_video}
use Rattle.driver_model.specs.Refusals.{Looked, ◌>>=◌, ◌>>◌, first_handle, further_handle, refused_if}
use Rattle.driver_model.specs.Renders.{Counts, Decodes, Render, Rendering, decoded, given_now, info_taken, is_of_other_size, is_own_reference, references, render, rendering, units_counted}
use Rattle.driver_model.specs.States.{State, Found, named, with_note}
use Rattle.driver_model.specs.Surfaces.{with_picture}
use Rattle.driver_model.proofs.Looks.{HasSize-named, err_not_ok, first_handle-Ok, ok_is, then_ok, unless_ok}
use Rattle.vd_plane.proofs.OnePicture.{picture_one}
use Rattle.driver_model.proofs.SameReplies.{TwoSteps, both_refused, err_one, goes_two}

-- a test that fails is the first, or comes behind the first
fails_first : (tests : List Bool) → (k : ℕ) → k < length tests → get_or tests k false ≡ false → position_or_len not tests ≤ k
fails_first [] k within h = elim within [ ]
fails_first (true ∷ tests) zero within h = absurd (let e : true ≡ false = h in cc)
fails_first (true ∷ tests) (suc k) within h = omega (arith, fails_first tests k (omega arith) h)
fails_first (false ∷ tests) k within h = omega arith

-- where no test is found to fail, each is passed
none_fails : (tests : List Bool) → position not tests ≡ None → (k : ℕ) → k < length tests → get_or tests k false ≡ true
none_fails tests h k within = by_value (get_or tests k false) refl where
  by_value : (b : Bool) → get_or tests k false ≡ b → b ≡ true
  by_value true e = refl
  by_value false e = absurd (let le = fails_first tests k within e in grind (arith, nat_tests))

info_taken-Ok : (decoder : Decoder) (info : PictureInfo) → info_taken decoder info ≡ Ok tt → position not (accepted_fields decoder.profile decoder.max_references info) ≡ None
info_taken-Ok decoder info h = by_value (position not (accepted_fields decoder.profile decoder.max_references info)) h where
  by_value : (field : Option ℕ) → (let looked : Looked (Unit {0}) = elim field as (λ f. Looked (Unit {0})) [ None ↦ Ok tt | Some n ↦ Err (BadInfo n) ] in looked ≡ Ok tt) → field ≡ None
  by_value None e = refl
  by_value (Some field) e = absurd (err_not_ok (BadInfo field) tt e)

-- what a render that isn't refused has found
pub record HasTaken (s : State) (info : PictureInfo) (on : Rendering) : Type 0 where
  pub accepted : IsAcceptedBySome info
  pub limits : HasSizes s → IsWithinLimits on.decoder.value.size

abbrev found_of : Found Decoder → Found VideoSurface → List (Option (Found VideoSurface)) → Rendering
found_of decoder target references = record { decoder = decoder; target = target; references = references }

module _ (s : State) (decoder target : ℕ) (info : PictureInfo) where
  -- what is looked at behind the sizes, the references, and the handles
  behind_sizes : Rendering → Looked Rendering
  behind_sizes on = info_taken on.decoder.value info >> Ok on

  behind_own : Rendering → Looked Rendering
  behind_own on = refused_if (is_of_other_size on) BadSize >> behind_sizes on

  behind_handles : Rendering → Looked Rendering
  behind_handles on = refused_if (is_own_reference on) TargetIsReference >> behind_own on

  -- and behind the references, the target and the decoder
  behind_references : Found Decoder → Found VideoSurface → List (Option (Found VideoSurface)) → Looked Rendering
  behind_references first second found = Ok (found_of first second found)

  behind_target : Found Decoder → Found VideoSurface → Looked Rendering
  behind_target first second = references s first.device 2 info.references >>= behind_references first second

  behind_decoder : Found Decoder → Looked Rendering
  behind_decoder first = further_handle 1 first.device (named s as_video target) >>= behind_target first

  first_found : (on : Rendering) → rendering s decoder target info.references ≡ Ok on → named s as_decoder decoder ≡ Some on.decoder
  unfolding behind_references behind_target behind_decoder
  first_found on h =
      let first = then_ok (first_handle s (named s as_decoder decoder)) behind_decoder on h in
      let second = then_ok (further_handle 1 first.0.device (named s as_video target)) (behind_target first.0) on first.2 in
      let third = then_ok (references s first.0.device 2 info.references) (behind_references first.0 second.0) on second.2 in
      let is : found_of first.0 second.0 third.0 ≡ on = ok_is (found_of first.0 second.0 third.0) on third.2 in
      first_handle-Ok s (named s as_decoder decoder) first.0 first.1 ∙ ap (λ (r : Rendering). Some r.decoder) is

  taken : (on : Rendering) → render s decoder target info ≡ Ok on → HasTaken s info on
  unfolding behind_sizes behind_own behind_handles
  taken on h =
      let found = then_ok (rendering s decoder target info.references) behind_handles on h in
      let own = unless_ok (refused_if (is_own_reference found.0) TargetIsReference) (behind_own found.0) on found.2 in
      let other = unless_ok (refused_if (is_of_other_size found.0) BadSize) (behind_sizes found.0) on own.1 in
      let fields = unless_ok (info_taken found.0.decoder.value info) (Ok found.0) on other.1 in
      let same : found.0 ≡ on = ok_is found.0 on fields.1 in
      let of : Decoder = found.0.decoder.value in
      record {
        accepted = (
          of.profile,
          of.max_references,
          λ field within.
              none_fails (accepted_fields of.profile of.max_references info) (info_taken-Ok of info fields.0) field within,
        );
        limits = λ sizes.
            subst (λ (r : Rendering). IsWithinLimits r.decoder.value.size) same
            (HasSize-named s decoder found.0.decoder sizes (first_found found.0 found.1));
      }

-- ---- what is done with it

decoded_one : (g : Given) (units : List (Option (List ℕ))) → IsAcceptedBySome g.info → IsWithinLimits g.size → (old : State) (target : Found VideoSurface) (o : Outcome) (p q : Picture)
    → IsOutcome g units o p → IsOutcome g units o q → decoded old target p o ≡ decoded old target q o
decoded_one g units accepted limits old target outcome.Ok p q is also = ap (λ picture. with_picture old target picture) (picture_one p q (whole_one g units accepted limits p q is also))
decoded_one g units accepted limits old target (outcome.Bitstream slice) p q is also = refl
decoded_one g units accepted limits old target (outcome.Incomplete macroblocks) p q is also = refl

module _ (old new other : State) (caller : List ℕ) (reply again : Reply) (info : PictureInfo) (payloads : List (Option (List ℕ))) where
  decodes_two : (on : Rendering) → IsAcceptedBySome info → IsWithinLimits on.decoder.value.size → Decodes old reply new caller info payloads on → Decodes old again other caller info payloads on → TwoSteps new other reply again
  decodes_two on accepted limits p q =
      let g : Given = given_now info on in
      let one : p.outcome ≡ q.outcome = outcome_one g payloads accepted limits p.outcome q.outcome p.picture q.picture p.is_outcome q.is_outcome in
      let also : IsOutcome g payloads q.outcome p.picture = subst (λ (o : Outcome). IsOutcome g payloads o p.picture) one p.is_outcome in
      let after : State → State = λ s. with_note s caller on.target.place q.outcome in
      let state : new ≡ other =
      p.after
      ∙ (ap (λ (o : Outcome). with_note (decoded old on.target p.picture o) caller on.target.place o) one
      ∙ (ap after (decoded_one g payloads accepted limits old on.target q.outcome p.picture q.picture also q.is_outcome) ∙ sym q.after)) in
      let replies : reply ≡ again = p.tells ∙ (ap reply_of one ∙ sym q.tells) in
      record { one_state = λ e. state; one_refusal = λ a b ea eb. err_one a b (sym ea ∙ (replies ∙ eb)) }

module _ (old new other : State) (caller : List ℕ) (reply again : Reply) (info : PictureInfo) (bytes : List ℕ) where
  -- the payloads of both are the same, and so is the look at their number
  counts_two : (on : Rendering) → IsAcceptedBySome info → IsWithinLimits on.decoder.value.size → Counts old reply new caller info bytes on → Counts old again other caller info bytes on → TwoSteps new other reply again
  counts_two on accepted limits p q =
      let one : q.payloads ≡ p.payloads = payloads_one bytes q.payloads p.payloads q.units p.units in
      let looked : Looked (Unit {0}) = units_counted info (length p.payloads) in
      let also : Goes old again other looked (λ nothing. Decodes old again other caller info p.payloads on) =
      subst (λ (l : List (Option (List ℕ))). Goes old again other (units_counted info (length l)) (λ nothing. Decodes old again other caller info l on)) one q.goes in
      goes_two old new other reply again looked (λ nothing. Decodes old reply new caller info p.payloads on) (λ nothing. Decodes old again other caller info p.payloads on)
      (λ nothing a b. decodes_two old new other caller reply again info p.payloads on accepted limits a b) p.goes also

  -- the same as `goes_two`, of what was looked at
  goes_at : (looked : Looked Rendering) → ((on : Rendering) → looked ≡ Ok on → IsAcceptedBySome info × IsWithinLimits on.decoder.value.size)
      → Goes old reply new looked (Counts old reply new caller info bytes) → Goes old again other looked (Counts old again other caller info bytes) → TwoSteps new other reply again
  goes_at (Ok on) facts p q = counts_two on (facts on refl).0 (facts on refl).1 p q
  goes_at (Err refusal) facts p q = both_refused old new other reply again refusal p q

pub render_two : (old new other : State) (caller : List ℕ) (reply again : Reply) (decoder target : ℕ) (info : PictureInfo) (bytes : List ℕ) → HasSizes old
    → Render old reply new caller decoder target info bytes → Render old again other caller decoder target info bytes → TwoSteps new other reply again
render_two old new other caller reply again decoder target info bytes sizes p q =
    goes_at old new other caller reply again info bytes (render old decoder target info)
    (λ on h. let t = taken old decoder target info on h in (t.accepted, t.limits sizes))
    p q
