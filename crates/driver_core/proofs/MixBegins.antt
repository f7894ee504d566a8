-- A mix begins.
use Rattle.std.proofs.Common.{◌≡◌, inl, inr, ℕ, ◌==◌, ◌||◌, Bool, true, false, if◌then◌else◌, List, map, replicate, slice_get, ℤ, Option, Some, None, Result, true≢false, Ok, Err, IfOk, IfErr, refl, sym, ap, ◌∙◌, subst}
use Rattle.std.specs.Option.{option_and_then}
use Rattle.decoder_render.specs.declared.outcome.Outcome.TheVariants as outcome
use Rattle.mixer.specs.Mixed.{IsMixed}
use Rattle.vd_plane.specs.declared.picture.Picture.{Picture}
use Rattle.vd_status.specs.declared.refusal.Refusal.{Refusal}
use Rattle.vd_status.specs.declared.refusal.Refusal.TheVariants.{DeviceMismatch}
use Rattle.driver_jobs.specs.Mixes as mixes
use Rattle.driver_jobs.specs.declared.mixes.CoreMix.{CoreMix}
use Rattle.driver_model.specs.Mixes.{Mixing as Mixed, is_mix_held}
use Rattle.driver_model.specs.Objects as model
use Rattle.driver_model.specs.Refusals.{further_handle}
use Rattle.driver_model.specs.Sizes.{pixel_bytes}
use Rattle.driver_model.specs.States.{Found, Note, State, content_at, free_number, is_out, named, with_content as with_model_content, with_note}
use Rattle.driver_model.specs.Surfaces.{with_bytes}
use Rattle.driver_model.specs.declared.calls.Call.TheVariants.{Mix}
use Rattle.driver_model.proofs.Named.{named-Some}
use Rattle.driver_objects.specs.Kept.{kept_of}
use Rattle.driver_objects.specs.declared.content.Content.TheVariants as content
use Rattle.render_outcomes.proofs.MixedExist.{mixed_bytes_exist}
use Rattle.driver_core.specs.Begun.{BeginsMix, TakesWith}
use Rattle.driver_core.specs.Jobs.{HasBytesThere}
use Rattle.driver_core.specs.MixStarts.{FindsMix, HoldsMix, IsStart, OfPlaces, WantsMemory}
use Rattle.driver_core.specs.Owed.{OwesPixels}
use Rattle.driver_core.specs.Stands.{IsContent, Stands, is_owed}
use Rattle.driver_core.specs.declared.answer.CoreAnswer.TheVariants.{Now}
use Rattle.driver_core.specs.declared.driver.Core.{Core}
use Rattle.driver_core.specs.declared.mixes.Mixing.{Mixing}
use Rattle.driver_core.proofs.ContentStands.{get_changed_same}
use Rattle.driver_core.proofs.MixLooks.{there_is}
use Rattle.driver_core.proofs.Out.{not_out_not_owed}
use Rattle.driver_core.proofs.Steps.{finding}

-- ---- what a further handle finds

module _ {T : Type 0} (arg device : ℕ) where
  ok_is : (a b : Found T) → (let r : Result (Found T) Refusal = Ok a in r ≡ Ok b) → a ≡ b
  ok_is a b e = cc

  further_is : (of : Option (Found T)) (found : Found T) → further_handle arg device of ≡ Ok found → of ≡ Some found
  further_is None found is = absurd (let e : further_handle {T = T} arg device None ≡ Ok found = is in cc)
  further_is (Some one) found is = by_test (one.device == device) is where
    by_test : (b : Bool) → (if b then Ok one else Err (DeviceMismatch arg)) ≡ Ok found → Some one ≡ Some found
    by_test true is = ap Some (ok_is one found is)
    by_test false is = absurd (cc)

-- an output surface of the state, by a further handle
pub output_at : (d : State) (device onto : ℕ) (output : Found model.OutputSurface) → further_handle 2 device (named d model.as_output onto) ≡ Ok output
    → (one : model.Object) × (slice_get d.objects output.place ≡ Some one) × (model.as_output one.content ≡ Some output.value)
output_at d device onto output is =
    let n = named-Some model.as_output onto d output (further_is 2 device (named d model.as_output onto) output is) in
    (n.0, n.1, n.2.is_kind)

neither : (a b : Bool) → (a || b) ≡ false → (a ≡ false) × (b ≡ false)
neither true b home = absurd (true≢false home)
neither false b home = (refl, home)

mixed_as : (p q : Picture) (m n : List ℤ) (f g : ℕ) (bytes : List ℕ) → p ≡ q → m ≡ n → f ≡ g → IsMixed p m f bytes → IsMixed q n g bytes
mixed_as p q m n f g bytes pictures matrices formats mixed =
    subst (λ x. IsMixed q n x bytes) formats (subst (λ x. IsMixed q x f bytes) matrices (subst (λ x. IsMixed x m f bytes) pictures mixed))

-- ---- the step

module _ (old new : Core) (handle structure surface onto : ℕ) (at : Mixing) (finds : FindsMix old handle structure surface onto at)
    (d : State) (caller : List ℕ) (stands : Stands old d) where
  -- whether it is held, by what is kept
  pub held_is : (held : Bool) → OfPlaces (kept_of old.objects) at (λ video output. held ≡ (is_out d video || is_out d output)) → held ≡ is_mix_held d (finds d stands).0.on
  held_is held is =
      let f = (finds d stands).0 in
      is f.video.object f.output.object f.video.there f.output.there ∙ (λ i. is_out d (f.video.at_place i) || is_out d (f.output.at_place i))

  module _ (home : is_mix_held d (finds d stands).0.on ≡ false) (job : CoreMix) (holds : HoldsMix old new at job) where
    abbrev on : Mixed
    on = (finds d stands).0.on

    at_home : (is_out d on.video.place ≡ false) × (is_out d on.output.place ≡ false)
    at_home = neither (is_out d on.video.place) (is_out d on.output.place) home

    mixer_is : IsContent old.queues (is_owed d on.mixer.place) (model.MixerObject on.mixer.value) (content.Mixer holds.mixer)
    mixer_is = there_is old d at.mixer on.mixer.place (model.MixerObject on.mixer.value) (content.Mixer holds.mixer) (finds d stands).0.mixer holds.has_mixer

    video_is : IsContent old.queues (is_owed d on.video.place) (model.VideoObject on.video.value) (content.Video holds.video)
    video_is = there_is old d at.video on.video.place (model.VideoObject on.video.value) (content.Video holds.video) (finds d stands).0.video holds.has_video

    output_is : IsContent old.queues (is_owed d on.output.place) (model.OutputObject on.output.value) (content.Output holds.output)
    output_is = there_is old d at.output on.output.place (model.OutputObject on.output.value) (content.Output holds.output) (finds d stands).0.output holds.has_output

    picture : mixes.picture_of job ≡ on.video.value.picture
    picture = holds.picture ∙ video_is.1 (not_out_not_owed d on.video.place at_home.0)

    matrix : mixes.matrix_of job ≡ on.mixer.value.matrix
    matrix = holds.matrix ∙ mixer_is.1

    format : mixes.format_of job ≡ on.output.value.format
    format = holds.format ∙ output_is.0

    -- the step where the pixels are these
    takes : (bytes : List ℕ) → IsMixed (mixes.picture_of job) (mixes.matrix_of job) (mixes.format_of job) bytes
        → TakesWith new d caller (Mix handle structure surface onto) outcome.Ok (mixes.number_of job) (λ after note. OwesPixels after note on.output.value.size bytes)
    takes bytes mixed =
        let f = (finds d stands).0 in
        let o = output_at d on.mixer.device onto on.output f.of_output in
        let now : model.OutputSurface = record on.output.value { bytes = bytes } in
        let there : content_at d model.as_output on.output.place ≡ Some on.output.value = ap (option_and_then (λ (one : model.Object). model.as_output one.content)) o.1 ∙ o.2 in
        let note : Note = record { place = d.items; caller = caller; target = on.output.place; outcome = outcome.Ok; number = free_number (map (λ (other : Note). other.number) d.notes) } in
        record {
          after = with_note (with_bytes d on.output bytes) caller on.output.place outcome.Ok;
          step = inr (finding _ _ _ _ (finds d stands).1 (record { at_home = home; bytes = bytes; pixels = mixed_as _ _ _ _ _ _ bytes picture matrix format mixed; leaves = (refl, refl) }));
          stands = subst (λ p. Stands new (with_note (with_model_content d p (model.OutputObject now)) caller p outcome.Ok)) f.output.at_place
              (holds.stands d caller f.output.object (model.OutputObject now) stands f.output.there (subst (λ p. HasBytesThere d p (model.OutputObject now)) (sym f.output.at_place) (on.output.value, bytes, there, refl)));
          note = note;
          noted = refl;
          at_place = refl;
          of_caller = refl;
          comes_to = refl;
          numbered = sym (holds.numbered d stands);
          owes = record {
            surface = now;
            there = ap (option_and_then (λ (one : model.Object). model.as_output one.content)) (get_changed_same (λ (one : model.Object). record one { content = model.OutputObject now }) on.output.place d.objects o.0 o.1);
            of_size = refl;
            owed = refl;
          };
        }

    -- what the job's samples come to, which exists
    comes : (bytes : List ℕ) × IsMixed (mixes.picture_of job) (mixes.matrix_of job) (mixes.format_of job) bytes
    comes = mixed_bytes_exist (mixes.picture_of job) (mixes.matrix_of job) (mixes.format_of job)

    begins_mix : BeginsMix new d caller handle structure surface onto job
    begins_mix = record {
      on = on;
      looks = (finds d stands).1;
      size = holds.size ∙ output_is.1;
      picture = picture;
      matrix = matrix;
      format = format;
      zeros = holds.zeros ∙ ap (λ size. replicate (pixel_bytes size) 0) output_is.1;
      bytes = comes.0;
      comes_to = comes.1;
      takes = takes comes.0 comes.1;
    }

  pub started : is_mix_held d (finds d stands).0.on ≡ false → (result : Result CoreMix Refusal) → IfOk result (HoldsMix old new at) → IfErr result (WantsMemory old new)
      → IsStart new d caller handle structure surface onto (Now result)
  started home (Ok job) holds wants = begins_mix home job holds
  started home (Err refusal) holds wants = (inl (refl, (ap Err wants.0, refl)), wants.1 d stands)
