-- The step of a mix.
use Rattle.std.proofs.Common.{◌≡◌, ℕ, true, false, ◌||◌, List, ◌<◌, length, Ok, Err, Result, OnOk, is_err, refl, ap, sym, ◌∙◌, subst, arith}
use Rattle.decoder_render.specs.declared.outcome.Outcome.TheVariants as outcome
use Rattle.mixer.specs.Mixed.{IsMixed}
use Rattle.vd_status.specs.declared.refusal.Refusal.{Refusal}
use Rattle.driver_model.specs.Mixes as mixes
use Rattle.driver_model.specs.Mixes.{Mixes, Mixing, mix}
use Rattle.driver_model.specs.Objects.{OutputObject, OutputSurface, VideoMixer, VideoSurface}
use Rattle.driver_model.specs.Refusals.{Looked}
use Rattle.driver_model.specs.States.{State, is_out, with_content, with_note}
use Rattle.driver_model.specs.declared.replies.Answer.TheVariants.{Done}
use Rattle.driver_model.proofs.Looks.{err_not_ok}
use Rattle.plain_driver.specs.Mixing.{IsMixOf, mix_placed}
use Rattle.plain_driver.specs.States.{output_of, objects_of, state_of}
use Rattle.plain_driver.specs.declared.driver.Plain.{Plain}
use Rattle.plain_driver.specs.declared.mixes.MixPlaces.{MixPlaces}
use Rattle.plain_driver.specs.declared.objects.PlainOutput.{PlainOutput}
use Rattle.plain_driver.proofs.Changed.{length-objects_of}
use Rattle.plain_driver.proofs.Goes.{goes_err, goes_ok, some_one}
use Rattle.plain_driver.proofs.MixLooks.{mix-at}

refusals_are : (a b : Refusal) → (let x : Looked MixPlaces = Err a in x ≡ Err b) → a ≡ b
refusals_are a b e = cc

mix_placed-Err : (looked : Looked Mixing) (refusal : Refusal) → Err refusal ≡ mix_placed looked → looked ≡ Err refusal
mix_placed-Err (Ok found) refusal e = absurd (err_not_ok refusal (record { mixer = found.mixer.place; video = found.video.place; output = found.output.place }) e)
mix_placed-Err (Err other) refusal e = ap Err (refusals_are other refusal (sym e))

module _ (s : State) (caller : List ℕ) (handle structure surface onto : ℕ) where
  pub mix_refused : (refusal : Refusal) → Err refusal ≡ mix_placed (mix s handle structure surface onto) → mixes.Mix s (Err refusal) s caller handle structure surface onto
  mix_refused refusal e = goes_err s (Err refusal) s (mix s handle structure surface onto) (Mixes s (Err refusal) s caller) refusal (mix_placed-Err (mix s handle structure surface onto) refusal e) refl refl

  pub mix_done : (places : MixPlaces) (content : PlainOutput) (noted new : State) → Ok places ≡ mix_placed (mix s handle structure surface onto) → (is_out s places.video || is_out s places.output) ≡ false → IsMixOf s places content
      → noted ≡ with_note s caller places.output outcome.Ok → new ≡ with_content noted places.output (OutputObject (output_of content)) → mixes.Mix s (Ok Done) new caller handle structure surface onto
  mix_done places content noted new told home is is_noted after =
      let on = mix-at s handle structure surface onto places told in
      let f = on.found in
      let bytes = content.bytes.items in
      let same_m : is.mixer ≡ f.mixer.value = some_one is.mixer f.mixer.value (sym is.of_mixer ∙ on.of_mixer) in
      let same_v : is.video ≡ f.video.value = some_one is.video f.video.value (sym is.of_video ∙ on.of_video) in
      let same_o : is.output ≡ f.output.value = some_one is.output f.output.value (sym is.of_output ∙ on.of_output) in
      let content_is : OutputObject (output_of content) ≡ OutputObject (record f.output.value { bytes = bytes }) = ap OutputObject is.rest ∙ ap (λ (o : OutputSurface). OutputObject (record o { bytes = bytes })) same_o in
      goes_ok s (Ok Done) new (mix s handle structure surface onto) (Mixes s (Ok Done) new caller) f on.is (record {
        at_home = ap (λ p. is_out s p || is_out s f.output.place) on.at_video ∙ (ap (λ p. is_out s places.video || is_out s p) on.at_output ∙ home);
        bytes = bytes;
        pixels =
            subst (λ (v : VideoSurface). IsMixed v.picture f.mixer.value.matrix f.output.value.format bytes) same_v
            (subst (λ (m : VideoMixer). IsMixed is.video.picture m.matrix f.output.value.format bytes) same_m
            (subst (λ (o : OutputSurface). IsMixed is.video.picture is.mixer.matrix o.format bytes) same_o is.pixels));
        leaves = (
          refl,
          after ∙ (ap (λ t. with_content t places.output (OutputObject (output_of content))) is_noted
              ∙ (ap (λ x. with_note (with_content s places.output x) caller places.output outcome.Ok) content_is
              ∙ ap (λ p. with_note (with_content s p (OutputObject (record f.output.value { bytes = bytes }))) caller p outcome.Ok) (sym on.at_output))),
        );
      })

pub was_ok : {A E : Type 0} (r : Result A E) (P : Type 0) → is_err r ≡ false → OnOk r P → P
was_ok (Ok x) P fine held = held
was_ok (Err e) P fine held = absurd (let k : true ≡ false = fine in cc)

-- a note changes no object
pub noted_below : (old new : Plain) (caller : List ℕ) (target place : ℕ) → state_of new ≡ with_note (state_of old) caller target outcome.Ok → place < length (state_of old).objects → place < length new.objects.items
noted_below old new caller target place e below =
    let same : length (objects_of new.objects.items) ≡ length (objects_of old.objects.items) = ap (λ (t : State). length t.objects) e in
    omega (arith, below, same, length-objects_of new.objects.items)
