-- What calls have found out of sizes, formats and profiles where they weren't refused.
use Rattle.std.proofs.Common.{◌≡◌, ℕ, ◌*◌, ◌≤◌, ◌==◌, nat_lt, Bool, true, false, not, ◌&&◌, Ok, refl, ap, sym, ◌∙◌, arith}
use Rattle.std.proofs.lemmas.Bool.{and_parts, eq-eqb, eqb-true, false≢true, or_parts}
use Rattle.std.proofs.lemmas.Bool.Decides.{nat_tests}
use Rattle.cb_types.specs.declared.picture_info.PictureInfo.{PictureInfo}
use Rattle.cb_types.specs.declared.size.SizeMbs.{SizeMbs}
use Rattle.vd_plane.specs.Picture.{HasSize}
use Rattle.vd_plane.specs.declared.picture.Picture.{Picture}
use Rattle.vd_status.specs.declared.refusal.Refusal.{Refusal}
use Rattle.vd_status.specs.declared.refusal.Refusal.TheVariants.{BadInfo, BadProfile, BadRgba, BadSize, BadStructure, TargetIsReference}
use Rattle.driver_model.specs.Creates.{decoder_create, output_create, room}
use Rattle.driver_model.specs.Mixes.{Mixing, mix}
use Rattle.driver_model.specs.Objects.{Device, VideoSurface, OutputSurface, VideoMixer, as_device, as_mixer, as_output, as_video}
use Rattle.driver_model.specs.Refusals.{Looked, ◌>>=◌, ◌>>◌, first_handle, further_handle, refused_if}
use Rattle.driver_model.specs.Renders.{Rendering, info_taken, is_of_other_size, is_own_reference, render, rendering, some_reference}
use Rattle.driver_model.specs.Sizes.{is_profile, is_rgba_format, is_same_size, pixel_bytes, size_for}
use Rattle.driver_model.specs.States.{State, Found, named}
use Rattle.driver_model.specs.Surfaces.{output, output_bits}
use Rattle.driver_model.specs.declared.numbers.TheConstants.{FRAME, MAX_REFERENCES}
use Rattle.driver_model.proofs.Looks.{err_not_ok}
use Rattle.driver_model.proofs.PartFirsts.{Finds, guard_finds, ok_finds, then_finds}
use Rattle.driver_model.proofs.SoundLooks.{Stands, further-Ok, named_stands}

-- a look that is refused where a test holds
refused_finds : {B : Type 0} (P : B → Type 0) (test : Bool) (r : Refusal) (later : Looked B) → (test ≡ false → Finds P later) → Finds P (refused_if test r >> later)
refused_finds P true r later rest b e = absurd (err_not_ok r b e)
refused_finds P false r later rest b e = rest refl b e

pub unless_true : (b : Bool) → not b ≡ false → b ≡ true
unless_true true e = refl
unless_true false e = absurd (false≢true (sym e))

-- a picture of one size has the other, which is the same
pub size_of_other : (a b : SizeMbs) (picture : Picture) → is_same_size a b ≡ true → HasSize picture a → HasSize picture b
size_of_other a b picture same is =
    let parts = and_parts (a.width == b.width) (a.height == b.height) same in
    record {
      width = is.width ∙ ap (λ n. 16 * n) (eqb-true a.width b.width parts.0);
      height = is.height ∙ ap (λ n. 16 * n) (eqb-true a.height b.height parts.1);
    }

pub same_back : (a b : SizeMbs) → is_same_size a b ≡ true → is_same_size b a ≡ true
same_back a b same =
    let parts = and_parts (a.width == b.width) (a.height == b.height) same in
    let across : (b.width == a.width) ≡ true = eq-eqb b.width a.width (sym (eqb-true a.width b.width parts.0)) in
    let down : (b.height == a.height) ≡ true = eq-eqb b.height a.height (sym (eqb-true a.height b.height parts.1)) in
    λ i. across i && down i

module _ (s : State) where
  pub output_bits_count : (surface count : ℕ) → Finds (λ (on : Found OutputSurface). count ≡ pixel_bytes on.value.size) (output_bits s surface count)
  output_bits_count surface count =
      let P : Found OutputSurface → Type 0 = λ on. count ≡ pixel_bytes on.value.size in
      then_finds P (output s surface) (λ at. refused_if (not (count == pixel_bytes at.value.size)) BadSize >> Ok at) (λ at e.
      refused_finds P (not (count == pixel_bytes at.value.size)) BadSize (Ok at) (λ fits. ok_finds P at (eqb-true count (pixel_bytes at.value.size) (unless_true _ fits))))

  pub output_format : (name format width height : ℕ) → Finds (λ place. is_rgba_format format ≡ true) (output_create s name format width height)
  output_format name format width height =
      let P : ℕ → Type 0 = λ place. is_rgba_format format ≡ true in
      let sized : Found Device → Looked ℕ = λ found. size_for width height >>= λ _. room s false >> Ok found.place in
      then_finds P (first_handle s (named s as_device name)) (λ found. refused_if (not (is_rgba_format format)) BadRgba >> sized found) (λ found e.
      refused_finds P (not (is_rgba_format format)) BadRgba (sized found) (λ fits place k. unless_true (is_rgba_format format) fits))

  pub decoder_numbers : (name profile width height max_references : ℕ) → Finds (λ place. (is_profile profile ≡ true) × (max_references ≤ MAX_REFERENCES)) (decoder_create s name profile width height max_references)
  decoder_numbers name profile width height max_references =
      let P : ℕ → Type 0 = λ place. (is_profile profile ≡ true) × (max_references ≤ MAX_REFERENCES) in
      let many : Bool = nat_lt MAX_REFERENCES max_references in
      let counted : Found Device → Looked ℕ = λ found. refused_if many (BadInfo 0) >> (room s false >> Ok found.place) in
      let sized : Found Device → Looked ℕ = λ found. size_for width height >>= λ _. counted found in
      then_finds P (first_handle s (named s as_device name)) (λ found. refused_if (not (is_profile profile)) BadProfile >> sized found) (λ found e.
      refused_finds P (not (is_profile profile)) BadProfile (sized found) (λ fits.
      then_finds P (size_for width height) (λ _. counted found) (λ size k.
      refused_finds P many (BadInfo 0) (room s false >> Ok found.place) (λ few place h. (unless_true (is_profile profile) fits, few_are few)))))
    where
      few_are : nat_lt MAX_REFERENCES max_references ≡ false → max_references ≤ MAX_REFERENCES
      few_are few = grind (arith, nat_tests)

  -- ---- jobs

  abbrev pub AreMixed : Mixing → Type 0
  AreMixed on = Stands s as_video on.video × Stands s as_output on.output × (is_same_size on.mixer.value.size on.video.value.size ≡ true) × (is_same_size on.mixer.value.size on.output.value.size ≡ true)

  abbrev mixing_of : Found VideoMixer → Found VideoSurface → Found OutputSurface → Mixing
  mixing_of one two three = record { mixer = one; video = two; output = three }

  pub mix_sizes : (handle structure surface onto : ℕ) → Finds AreMixed (mix s handle structure surface onto)
  mix_sizes handle structure surface onto =
      let P : Mixing → Type 0 = AreMixed in
      let fit : Found VideoMixer → Found VideoSurface → Found OutputSurface → Bool = λ one two three. is_same_size one.value.size two.value.size && is_same_size one.value.size three.value.size in
      let sized : Found VideoMixer → Found VideoSurface → Found OutputSurface → Looked Mixing = λ one two three. refused_if (not (fit one two three)) BadSize >> Ok (mixing_of one two three) in
      let last : Found VideoMixer → Found VideoSurface → Found OutputSurface → Looked Mixing = λ one two three. refused_if (not (structure == FRAME)) BadStructure >> sized one two three in
      let third : Found VideoMixer → Found VideoSurface → Looked Mixing = λ one two. further_handle 2 one.device (named s as_output onto) >>= last one two in
      then_finds P (first_handle s (named s as_mixer handle)) (λ one. further_handle 1 one.device (named s as_video surface) >>= third one) (λ one e.
      then_finds P (further_handle 1 one.device (named s as_video surface)) (third one) (λ two k.
      then_finds P (further_handle 2 one.device (named s as_output onto)) (last one two) (λ three h.
      let video = named_stands s as_video surface two (further-Ok 1 one.device (named s as_video surface) two k).0 in
      let output = named_stands s as_output onto three (further-Ok 2 one.device (named s as_output onto) three h).0 in
      guard_finds P (refused_if (not (structure == FRAME)) BadStructure) (sized one two three)
      (refused_finds P (not (fit one two three)) BadSize (Ok (mixing_of one two three)) (λ fits.
      let parts = and_parts (is_same_size one.value.size two.value.size) (is_same_size one.value.size three.value.size) (unless_true (fit one two three) fits) in
      ok_finds P (mixing_of one two three) (video, output, parts.0, parts.1))))))

  abbrev pub IsOfSize : Rendering → Type 0
  IsOfSize on = is_same_size on.target.value.size on.decoder.value.size ≡ true

  pub render_sizes : (handle surface : ℕ) (info : PictureInfo) → Finds IsOfSize (render s handle surface info)
  render_sizes handle surface info =
      let P : Rendering → Type 0 = IsOfSize in
      let taken : Rendering → Looked Rendering = λ at. info_taken at.decoder.value info >> Ok at in
      let sized : Rendering → Looked Rendering = λ at. refused_if (is_of_other_size at) BadSize >> taken at in
      then_finds P (rendering s handle surface info.references) (λ at. refused_if (is_own_reference at) TargetIsReference >> sized at) (λ at e.
      guard_finds P (refused_if (is_own_reference at) TargetIsReference) (sized at)
      (refused_finds P (is_of_other_size at) BadSize (taken at) (λ fits.
      guard_finds P (info_taken at.decoder.value info) (Ok at)
      (ok_finds P at (unless_true (is_same_size at.target.value.size at.decoder.value.size)
      (or_parts (not (is_same_size at.target.value.size at.decoder.value.size)) (some_reference (λ found. not (is_same_size found.value.size at.decoder.value.size)) at) fits).0)))))
