-- The steps of calls on surfaces, decoders and mixers that found no fault.
use Rattle.std.proofs.Common.{◌≡◌, ℕ, ◌*◌, ◌/◌, ◌==◌, Bool, true, false, not, List, length, Some, Ok, Err, ℤ, refl, ap, sym, ◌∙◌, subst, eqb-true, arith}
use Rattle.bits_io.specs.ByteOrder.{byte_count, bytes_of}
use Rattle.cb_types.specs.SizeMbs.{luma_width}
use Rattle.cb_types.specs.declared.size.SizeMbs.{SizeMbs}
use Rattle.vd_plane.specs.SampleArray.{IsPlane, SampleArray, SameSides}
use Rattle.vd_plane.specs.Picture.{HasSize, SameSize}
use Rattle.vd_plane.specs.declared.picture.Picture.{Picture}
use Rattle.vd_status.specs.declared.refusal.Refusal.{Refusal}
use Rattle.vd_status.specs.declared.refusal.Refusal.TheVariants.{BadSize, BadYCbCr}
use Rattle.driver_model.specs.Answers.{Leaves, Tells}
use Rattle.driver_model.specs.Objects.{MixerObject, OutputObject, OutputSurface, VideoMixer, VideoObject, VideoSurface, as_mixer, as_output, as_video}
use Rattle.driver_model.specs.Refusals.{Looked, ◌>>=◌, ◌>>◌, refused_if}
use Rattle.driver_model.specs.Sizes.{is_ycbcr_format, pixel_bytes, sample_bytes}
use Rattle.driver_model.specs.States.{State, Found, content_at, is_out, with_content}
use Rattle.driver_model.specs.Surfaces as surfaces
use Rattle.driver_model.specs.Surfaces.{mixer, output, output_bits, size_told, video, video_bits, with_bytes, with_matrix, with_picture}
use Rattle.driver_model.specs.declared.replies.Answer.TheVariants.{Bytes, Done, Size}
use Rattle.driver_model.proofs.Looks.{ok_is, refused_if-Ok, then_ok, unless_ok}
use Rattle.plain_driver.specs.Looks.{placed}
use Rattle.plain_driver.proofs.Goes.{at_place, goes_ok, placed-Ok, some_one}

pub video_parameters : (s : State) (surface place : ℕ) (of : VideoSurface) → Ok place ≡ placed (video s surface) → content_at s as_video place ≡ Some of → surfaces.VideoParameters s (Ok (Size (size_told of))) s surface
video_parameters s surface place of told is =
    let on = at_place as_video surface s place told in
    let same : of ≡ on.found.value = some_one of on.found.value (sym is ∙ on.content) in
    goes_ok s (Ok (Size (size_told of))) s (video s surface) (λ x. Tells s (Ok (Size (size_told of))) s (Size (size_told x.value))) on.found on.is (ap (λ v. Ok (Size (size_told v))) same, refl)

pub mixer_set_matrix : (s : State) (handle place : ℕ) (of : VideoMixer) (matrix : List ℤ) (new : State) → Ok place ≡ placed (mixer s handle) → content_at s as_mixer place ≡ Some of
    → new ≡ with_content s place (MixerObject (record of { matrix = matrix })) → surfaces.MixerSetMatrix s (Ok Done) new handle matrix
mixer_set_matrix s handle place of matrix new told is after =
    let on = at_place as_mixer handle s place told in
    let same : of ≡ on.found.value = some_one of on.found.value (sym is ∙ on.content) in
    goes_ok s (Ok Done) new (mixer s handle) (λ x. Leaves s (Ok Done) new (with_matrix s x matrix)) on.found on.is
    (refl, after ∙ (ap (λ (v : VideoMixer). with_content s place (MixerObject (record v { matrix = matrix }))) same ∙ ap (λ p. with_content s p (MixerObject (record on.found.value { matrix = matrix }))) (sym on.at)))

not_not : (b : Bool) → not b ≡ false → b ≡ true
not_not true e = refl
not_not false e = absurd (let k : true ≡ false = e in cc)

-- ---- the samples of a video surface

module _ (s : State) (surface format count : ℕ) where
  behind_format : Found VideoSurface → Looked (Found VideoSurface)
  behind_format on = refused_if (not (count == sample_bytes on.value.size)) BadSize >> Ok on

  behind_video : Found VideoSurface → Looked (Found VideoSurface)
  behind_video on = refused_if (not (is_ycbcr_format format)) BadYCbCr >> behind_format on

  pub video_bits-ok : (place : ℕ) (of : VideoSurface) → Ok place ≡ placed (video s surface) → content_at s as_video place ≡ Some of
      → Ok tt ≡ refused_if (not (is_ycbcr_format format)) BadYCbCr → Ok tt ≡ refused_if (not (count == sample_bytes of.size)) BadSize → Ok place ≡ placed (video_bits s surface format count)
  unfolding behind_format behind_video
  video_bits-ok place of told is format_is count_is =
      let on = at_place as_video surface s place told in
      let same : of ≡ on.found.value = some_one of on.found.value (sym is ∙ on.content) in
      sym (ap (λ m. placed (m >>= behind_video)) on.is
      ∙ (ap (λ m. placed (m >> behind_format on.found)) (sym format_is)
      ∙ (ap (λ m. placed (m >> Ok on.found)) (ap (λ (v : VideoSurface). refused_if (not (count == sample_bytes v.size)) BadSize) (sym same) ∙ sym count_is)
      ∙ ap Ok on.at)))

  pub video_bits-err : (place : ℕ) (of : VideoSurface) (refusal : Refusal) → Ok place ≡ placed (video s surface) → content_at s as_video place ≡ Some of
      → Ok tt ≡ refused_if (not (is_ycbcr_format format)) BadYCbCr → Err refusal ≡ refused_if (not (count == sample_bytes of.size)) BadSize → Err refusal ≡ placed (video_bits s surface format count)
  unfolding behind_format behind_video
  video_bits-err place of refusal told is format_is count_is =
      let on = at_place as_video surface s place told in
      let same : of ≡ on.found.value = some_one of on.found.value (sym is ∙ on.content) in
      sym (ap (λ m. placed (m >>= behind_video)) on.is
      ∙ (ap (λ m. placed (m >> behind_format on.found)) (sym format_is)
      ∙ (ap (λ m. placed (m >> Ok on.found)) (ap (λ (v : VideoSurface). refused_if (not (count == sample_bytes v.size)) BadSize) (sym same) ∙ sym count_is))))

  -- what a look at the bits found
  pub record BitsAt (place : ℕ) : Type 0 where
    pub found : Found VideoSurface
    pub is : video_bits s surface format count ≡ Ok found
    pub at : found.place ≡ place
    pub first : Ok place ≡ placed (video s surface)
    pub content : content_at s as_video place ≡ Some found.value
    pub known : is_ycbcr_format format ≡ true
    pub fits : count ≡ sample_bytes found.value.size

  pub video_bits-at : (place : ℕ) → Ok place ≡ placed (video_bits s surface format count) → BitsAt place
  unfolding behind_format behind_video
  video_bits-at place told =
      let all = placed-Ok (video_bits s surface format count) place told in
      let one = then_ok (video s surface) behind_video all.0 all.1 in
      let two = unless_ok (refused_if (not (is_ycbcr_format format)) BadYCbCr) (behind_format one.0) all.0 one.2 in
      let three = unless_ok (refused_if (not (count == sample_bytes one.0.value.size)) BadSize) (Ok one.0) all.0 two.1 in
      let same : one.0 ≡ all.0 = ok_is one.0 all.0 three.1 in
      let first : Ok place ≡ placed (video s surface) = sym (ap placed one.1 ∙ ap Ok (ap (λ (f : Found VideoSurface). f.place) same ∙ all.2)) in
      let on = at_place as_video surface s place first in
      let here : on.found ≡ all.0 = ok_is on.found all.0 (sym on.is ∙ (one.1 ∙ ap Ok same)) in
      record {
        found = all.0;
        is = all.1;
        at = all.2;
        first = first;
        content = on.content ∙ ap (λ (f : Found VideoSurface). Some f.value) here;
        known = not_not (is_ycbcr_format format) (refused_if-Ok (not (is_ycbcr_format format)) BadYCbCr two.0);
        fits = eqb-true count _ (not_not (count == sample_bytes one.0.value.size) (refused_if-Ok (not (count == sample_bytes one.0.value.size)) BadSize three.0)) ∙ ap (λ (f : Found VideoSurface). sample_bytes f.value.size) same;
      }

-- the bytes of a picture's samples are as many as its size says
pub bytes_by_size : (picture : Picture) (size : SizeMbs) → HasSize picture size → byte_count picture ≡ sample_bytes size
bytes_by_size picture size is = ap (λ n. n * picture.y.height * 3 / 2) is.width ∙ ap (λ n. luma_width size * n * 3 / 2) is.height

same_plane : (a b : SampleArray) → IsPlane a → IsPlane b → b.width ≡ a.width → b.height ≡ a.height → SameSides a b
same_plane a b one other wide high = record {
  width = wide;
  height = high;
  count = other.count ∙ (ap (λ w. w * b.height) wide ∙ (ap (λ h. a.width * h) high ∙ sym one.count));
}

-- two pictures of one size have the same sides
pub same_sizes : (a b : Picture) (size : SizeMbs) → HasSize a size → HasSize b size → SameSize a b
same_sizes a b size one other =
    let wide : b.y.width ≡ a.y.width = other.width ∙ sym one.width in
    let high : b.y.height ≡ a.y.height = other.height ∙ sym one.height in
    record {
      y = same_plane a.y b.y a.format.y_plane b.format.y_plane wide high;
      cb = same_plane a.cb b.cb a.format.cb_plane b.format.cb_plane (omega (arith, a.format.cb_width, b.format.cb_width, wide)) (omega (arith, a.format.cb_height, b.format.cb_height, high));
      cr = same_plane a.cr b.cr a.format.cr_plane b.format.cr_plane (omega (arith, a.format.cr_width, b.format.cr_width, wide)) (omega (arith, a.format.cr_height, b.format.cr_height, high));
    }

-- and so have those that one of them came from
pub same_size-then : (a b : Picture) (size : SizeMbs) → HasSize a size → SameSize a b → HasSize b size
same_size-then a b size one same = record { width = same.y.width ∙ one.width; height = same.y.height ∙ one.height }

pub video_get_bits : (s : State) (surface format count place : ℕ) (of : VideoSurface) (bytes : List ℕ) → Ok place ≡ placed (video_bits s surface format count) → content_at s as_video place ≡ Some of → is_out s place ≡ false → bytes ≡ bytes_of format of.picture
    → surfaces.VideoGetBits s (Ok (Bytes bytes)) s surface format count
video_get_bits s surface format count place of bytes told is home are =
    let on = video_bits-at s surface format count place told in
    let same : of ≡ on.found.value = some_one of on.found.value (sym is ∙ on.content) in
    goes_ok s (Ok (Bytes bytes)) s (video_bits s surface format count) (λ x. (is_out s x.place ≡ false) × Tells s (Ok (Bytes bytes)) s (Bytes (bytes_of format x.value.picture))) on.found on.is
    (ap (is_out s) on.at ∙ home, (ap (λ b. Ok (Bytes b)) are ∙ ap (λ (v : VideoSurface). Ok (Bytes (bytes_of format v.picture))) same, refl))

pub video_put_bits : (s : State) (surface format place : ℕ) (of : VideoSurface) (bytes : List ℕ) (picture : Picture) (new : State) → Ok place ≡ placed (video_bits s surface format (length bytes)) → content_at s as_video place ≡ Some of → is_out s place ≡ false
    → SameSize of.picture picture → bytes_of format picture ≡ bytes → new ≡ with_content s place (VideoObject (record of { picture = picture })) → surfaces.VideoPutBits s (Ok Done) new surface format bytes
video_put_bits s surface format place of bytes picture new told is home sides are after =
    let on = video_bits-at s surface format (length bytes) place told in
    let same : of ≡ on.found.value = some_one of on.found.value (sym is ∙ on.content) in
    goes_ok s (Ok Done) new (video_bits s surface format (length bytes)) (λ x. (is_out s x.place ≡ false) × ((p : Picture) × SameSize x.value.picture p × (bytes_of format p ≡ bytes) × Leaves s (Ok Done) new (with_picture s x p))) on.found on.is (
      ap (is_out s) on.at ∙ home,
      (
        picture,
        subst (λ (v : VideoSurface). SameSize v.picture picture) same sides,
        are,
        (refl, after ∙ (ap (λ (v : VideoSurface). with_content s place (VideoObject (record v { picture = picture }))) same ∙ ap (λ p. with_content s p (VideoObject (record on.found.value { picture = picture }))) (sym on.at))),
      ),
    )

-- ---- the pixels of an output surface

module _ (s : State) (surface count : ℕ) where
  behind_output : Found OutputSurface → Looked (Found OutputSurface)
  behind_output on = refused_if (not (count == pixel_bytes on.value.size)) BadSize >> Ok on

  pub output_bits-ok : (place : ℕ) (of : OutputSurface) → Ok place ≡ placed (output s surface) → content_at s as_output place ≡ Some of
      → Ok tt ≡ refused_if (not (count == pixel_bytes of.size)) BadSize → Ok place ≡ placed (output_bits s surface count)
  unfolding behind_output
  output_bits-ok place of told is count_is =
      let on = at_place as_output surface s place told in
      let same : of ≡ on.found.value = some_one of on.found.value (sym is ∙ on.content) in
      sym (ap (λ m. placed (m >>= behind_output)) on.is
      ∙ (ap (λ m. placed (m >> Ok on.found)) (ap (λ (v : OutputSurface). refused_if (not (count == pixel_bytes v.size)) BadSize) (sym same) ∙ sym count_is)
      ∙ ap Ok on.at))

  pub output_bits-err : (place : ℕ) (of : OutputSurface) (refusal : Refusal) → Ok place ≡ placed (output s surface) → content_at s as_output place ≡ Some of
      → Err refusal ≡ refused_if (not (count == pixel_bytes of.size)) BadSize → Err refusal ≡ placed (output_bits s surface count)
  unfolding behind_output
  output_bits-err place of refusal told is count_is =
      let on = at_place as_output surface s place told in
      let same : of ≡ on.found.value = some_one of on.found.value (sym is ∙ on.content) in
      sym (ap (λ m. placed (m >>= behind_output)) on.is
      ∙ ap (λ m. placed (m >> Ok on.found)) (ap (λ (v : OutputSurface). refused_if (not (count == pixel_bytes v.size)) BadSize) (sym same) ∙ sym count_is))

  pub record PixelsAt (place : ℕ) : Type 0 where
    pub found : Found OutputSurface
    pub is : output_bits s surface count ≡ Ok found
    pub at : found.place ≡ place
    pub first : Ok place ≡ placed (output s surface)
    pub content : content_at s as_output place ≡ Some found.value
    pub fits : count ≡ pixel_bytes found.value.size

  pub output_bits-at : (place : ℕ) → Ok place ≡ placed (output_bits s surface count) → PixelsAt place
  unfolding behind_output
  output_bits-at place told =
      let all = placed-Ok (output_bits s surface count) place told in
      let one = then_ok (output s surface) behind_output all.0 all.1 in
      let two = unless_ok (refused_if (not (count == pixel_bytes one.0.value.size)) BadSize) (Ok one.0) all.0 one.2 in
      let same : one.0 ≡ all.0 = ok_is one.0 all.0 two.1 in
      let first : Ok place ≡ placed (output s surface) = sym (ap placed one.1 ∙ ap Ok (ap (λ (f : Found OutputSurface). f.place) same ∙ all.2)) in
      let on = at_place as_output surface s place first in
      let here : on.found ≡ all.0 = ok_is on.found all.0 (sym on.is ∙ (one.1 ∙ ap Ok same)) in
      record {
        found = all.0;
        is = all.1;
        at = all.2;
        first = first;
        content = on.content ∙ ap (λ (f : Found OutputSurface). Some f.value) here;
        fits = eqb-true count _ (not_not (count == pixel_bytes one.0.value.size) (refused_if-Ok (not (count == pixel_bytes one.0.value.size)) BadSize two.0)) ∙ ap (λ (f : Found OutputSurface). pixel_bytes f.value.size) same;
      }

pub output_get_bits : (s : State) (surface count place : ℕ) (of : OutputSurface) (bytes : List ℕ) → Ok place ≡ placed (output_bits s surface count) → content_at s as_output place ≡ Some of → is_out s place ≡ false → bytes ≡ of.bytes
    → surfaces.OutputGetBits s (Ok (Bytes bytes)) s surface count
output_get_bits s surface count place of bytes told is home are =
    let on = output_bits-at s surface count place told in
    let same : of ≡ on.found.value = some_one of on.found.value (sym is ∙ on.content) in
    goes_ok s (Ok (Bytes bytes)) s (output_bits s surface count) (λ x. (is_out s x.place ≡ false) × Tells s (Ok (Bytes bytes)) s (Bytes x.value.bytes)) on.found on.is
    (ap (is_out s) on.at ∙ home, (ap (λ b. Ok (Bytes b)) are ∙ ap (λ (v : OutputSurface). Ok (Bytes v.bytes)) same, refl))

pub output_put_bits : (s : State) (surface place : ℕ) (of : OutputSurface) (bytes : List ℕ) (new : State) → Ok place ≡ placed (output_bits s surface (length bytes)) → content_at s as_output place ≡ Some of → is_out s place ≡ false
    → new ≡ with_content s place (OutputObject (record of { bytes = bytes })) → surfaces.OutputPutBits s (Ok Done) new surface bytes
output_put_bits s surface place of bytes new told is home after =
    let on = output_bits-at s surface (length bytes) place told in
    let same : of ≡ on.found.value = some_one of on.found.value (sym is ∙ on.content) in
    goes_ok s (Ok Done) new (output_bits s surface (length bytes)) (λ x. (is_out s x.place ≡ false) × Leaves s (Ok Done) new (with_bytes s x bytes)) on.found on.is
    (ap (is_out s) on.at ∙ home, (refl, after ∙ (ap (λ (v : OutputSurface). with_content s place (OutputObject (record v { bytes = bytes }))) same ∙ ap (λ p. with_content s p (OutputObject (record on.found.value { bytes = bytes }))) (sym on.at))))
