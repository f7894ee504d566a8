-- The step of a render whose outcome is handed in.
use Rattle.std.proofs.Common.{◌≡◌, ℕ, ◌<◌, ◌||◌, true, false, List, length, Option, Some, Ok, Err, refl, ap, sym, ◌∙◌, subst, arith}
use Rattle.std.specs.Result.{IsOkAnd}
use Rattle.cb_types.specs.declared.picture_info.PictureInfo.{PictureInfo}
use Rattle.cb_types.specs.declared.size.SizeMbs.{SizeMbs}
use Rattle.decoder_render.specs.Coverage.{Given}
use Rattle.decoder_render.specs.Outcomes.{IsWhole}
use Rattle.decoder_render.specs.Submission.{ArePayloads}
use Rattle.decoder_render.specs.declared.outcome.Outcome.{Outcome}
use Rattle.decoder_render.specs.declared.outcome.Outcome.TheVariants as outcome
use Rattle.vd_plane.specs.Picture.{HasSize}
use Rattle.vd_plane.specs.SampleArray.{SampleArray}
use Rattle.vd_plane.specs.declared.picture.Picture.{Picture}
use Rattle.vd_status.specs.declared.refusal.Refusal.{Refusal}
use Rattle.driver_model.specs.Answers.{Reply}
use Rattle.driver_model.specs.Jobs.{reply_of}
use Rattle.driver_model.specs.Objects.{VideoObject, VideoSurface, as_video}
use Rattle.driver_model.specs.Renders as renders
use Rattle.driver_model.specs.Renders.{Counts, Decodes, Rendering, decoded, is_render_held, render, units_counted}
use Rattle.driver_model.specs.States.{State, Found, content_at, is_out, with_content, with_note}
use Rattle.driver_model.specs.Waits.{Waits}
use Rattle.driver_model.specs.declared.calls.Call.TheVariants as call
use Rattle.plain_driver.specs.Rendering.{IsHandedIn, decoded_at, render_placed, some_place}
use Rattle.plain_driver.specs.States.{objects_of, state_of}
use Rattle.plain_driver.specs.declared.driver.Plain.{Plain}
use Rattle.plain_driver.specs.declared.renders.RenderPlaces.{RenderPlaces}
use Rattle.plain_driver.proofs.Changed.{length-objects_of}
use Rattle.plain_driver.proofs.Goes.{goes_err, goes_ok, some_one}
use Rattle.plain_driver.proofs.RenderFinds.{held_is, render-at, render_placed-Err}

-- a whole picture has the size that it was to have
pub whole_size : (g : Given) (units : List (Option (List ℕ))) (picture : Picture) → IsWhole g units picture → HasSize picture g.size
whole_size g units picture is = record {
  width = ap (λ (a : SampleArray). a.width) is.decoded.y ∙ is.decoded.size.width;
  height = ap (λ (a : SampleArray). a.height) is.decoded.y ∙ is.decoded.size.height;
}

-- the samples of a noted render are those of the render, noted
decoded_noted : (s : State) (caller : List ℕ) (target : Found VideoSurface) (size : SizeMbs) (picture : Picture) (o : Outcome) → size ≡ target.value.size
    → decoded_at (with_note s caller target.place o) target.place size picture o ≡ with_note (decoded s target picture o) caller target.place o
decoded_noted s caller target size picture outcome.Ok same =
    ap (λ z. let of : VideoSurface = record { size = z; picture = picture } in with_note (with_content s target.place (VideoObject of)) caller target.place outcome.Ok) same
decoded_noted s caller target size picture (outcome.Bitstream slice) same = refl
decoded_noted s caller target size picture (outcome.Incomplete macroblocks) same = refl

module _ (s : State) (caller : List ℕ) (decoder target : ℕ) (info : PictureInfo) (bytes : List ℕ) where
  pub render_refused : (refusal : Refusal) → Err refusal ≡ render_placed (render s decoder target info) → renders.Render s (Err refusal) s caller decoder target info bytes
  render_refused refusal e = goes_err s (Err refusal) s (render s decoder target info) (Counts s (Err refusal) s caller info bytes) refusal (render_placed-Err (render s decoder target info) refusal e) refl refl

  module _ (places : RenderPlaces) (told : Ok places ≡ render_placed (render s decoder target info)) (payloads : List (Option (List ℕ))) (units : ArePayloads bytes payloads) where
    pub render_counted : (refusal : Refusal) → Err refusal ≡ units_counted info (length payloads) → renders.Render s (Err refusal) s caller decoder target info bytes
    render_counted refusal e =
        let on = render-at s decoder target info places told in
        goes_ok s (Err refusal) s (render s decoder target info) (Counts s (Err refusal) s caller info bytes) on.found on.is (record {
          payloads = payloads;
          units = units;
          goes = goes_err s (Err refusal) s (units_counted info (length payloads)) (λ nothing. Decodes s (Err refusal) s caller info payloads on.found) refusal (sym e) refl refl;
        })

    pub render_waits : Ok tt ≡ units_counted info (length payloads) → (is_out s places.target || some_place (is_out s) places.references) ≡ true → Waits s (call.Render decoder target info bytes)
    render_waits e held =
        let on = render-at s decoder target info places told in
        subst (λ looked. IsOkAnd looked (λ x. (ps : List (Option (List ℕ))) × ArePayloads bytes ps × IsOkAnd (units_counted info (length ps)) (λ nothing. is_render_held s x ≡ true))) (sym on.is) (
          payloads,
          units,
          subst (λ looked. IsOkAnd looked (λ nothing. is_render_held s on.found ≡ true)) e (held_is s on.found places on.stands ∙ held),
        )

    pub render_done : (of : VideoSurface) (o : Outcome) (picture : Picture) (reply : Reply) (noted new : State) → content_at s as_video places.target ≡ Some of → Ok tt ≡ units_counted info (length payloads)
        → (is_out s places.target || some_place (is_out s) places.references) ≡ false
        → IsHandedIn s decoder target info payloads o picture
        → reply ≡ reply_of o
        → noted ≡ with_note s caller places.target o
        → new ≡ decoded_at noted places.target of.size picture o
        → renders.Render s reply new caller decoder target info bytes
    render_done of o picture reply noted new is e home handed tells is_noted after =
        let on = render-at s decoder target info places told in
        let same : of ≡ on.found.target.value = some_one of on.found.target.value (sym is ∙ on.stands.of_target) in
        goes_ok s reply new (render s decoder target info) (Counts s reply new caller info bytes) on.found on.is (record {
          payloads = payloads;
          units = units;
          goes = goes_ok s reply new (units_counted info (length payloads)) (λ nothing. Decodes s reply new caller info payloads on.found) tt (sym e) (record {
            at_home = held_is s on.found places on.stands ∙ home;
            outcome = o;
            picture = picture;
            is_outcome = handed on.found on.is;
            tells = tells;
            after =
                after ∙ (ap (λ t. decoded_at t places.target of.size picture o) is_noted
                ∙ (ap (λ p. decoded_at (with_note s caller p o) p of.size picture o) (sym on.stands.at_target)
                ∙ decoded_noted s caller on.found.target of.size picture o (ap (λ (v : VideoSurface). v.size) same)));
          });
        })

    -- a picture that is handed in has the target's size
    pub handed_size : (of : VideoSurface) (picture : Picture) → content_at s as_video places.target ≡ Some of → IsHandedIn s decoder target info payloads outcome.Ok picture → HasSize picture of.size
    handed_size of picture is handed =
        let on = render-at s decoder target info places told in
        let same : of ≡ on.found.target.value = some_one of on.found.target.value (sym is ∙ on.stands.of_target) in
        subst (HasSize picture) (sym (ap (λ (v : VideoSurface). v.size) same ∙ on.one_size)) (whole_size _ payloads picture (handed on.found on.is))

-- a note changes no object
pub noted_below : (old new : Plain) (caller : List ℕ) (target place : ℕ) (o : Outcome) → state_of new ≡ with_note (state_of old) caller target o → place < length (state_of old).objects → place < length new.objects.items
noted_below old new caller target place o e below =
    let same : length (objects_of new.objects.items) ≡ length (objects_of old.objects.items) = ap (λ (t : State). length t.objects) e in
    omega (arith, below, same, length-objects_of new.objects.items)
