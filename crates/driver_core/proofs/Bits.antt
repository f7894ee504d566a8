-- What the calls on a video surface's samples look at.
use Rattle.std.proofs.Common.{◌≡◌, ℕ, ◌==◌, ◌*◌, ◌/◌, true, false, slice_get, Some, Ok, Err, refl, sym, ap, ◌∙◌, subst, arith}
use mathlib.Core.Bool.{false≢true}
use Rattle.std.proofs.lemmas.Bool.Decides.{nat_tests}
use Rattle.bits_io.specs.ByteOrder.{byte_count}
use Rattle.vd_status.specs.declared.refusal.Refusal.TheVariants.{BadSize, BadYCbCr}
use Rattle.driver_model.specs.Objects as model
use Rattle.driver_model.specs.Sizes.{is_ycbcr_format, sample_bytes}
use Rattle.driver_model.specs.Refusals.{Looked}
use Rattle.driver_model.specs.States.{Found, State, is_out}
use Rattle.driver_model.specs.Surfaces.{video, video_bits}
use Rattle.driver_model.specs.Waits.{FoundAnd}
use Rattle.driver_model.specs.declared.numbers.TheConstants as number
use Rattle.driver_objects.specs.Contents.{HasContent}
use Rattle.driver_objects.specs.Kept.{kept_of}
use Rattle.driver_objects.specs.Kinds.{is_video, kind_number}
use Rattle.driver_objects.specs.Stored.{value_of}
use Rattle.driver_objects.specs.declared.content.Content.{Content}
use Rattle.driver_objects.specs.declared.content.Content.TheVariants as content
use Rattle.driver_objects.specs.declared.content.VideoSurface.{VideoSurface}
use Rattle.driver_objects.specs.declared.object.Object.{Object}
use Rattle.driver_objects.proofs.Lists.{one_kept}
use Rattle.driver_core.specs.Found.{FindsAt, HasBytes, IsFound}
use Rattle.driver_core.specs.Roles.{IsLiveAt}
use Rattle.driver_core.specs.Stands.{IsContent, Stands, is_owed}
use Rattle.driver_core.specs.declared.driver.Core.{Core}

module _ (d : State) (surface format count : ℕ) (on : Found model.VideoSurface) (names : video d surface ≡ Ok on) where
  pub bits_of_no_format : is_ycbcr_format format ≡ false → video_bits d surface format count ≡ Err BadYCbCr
  bits_of_no_format bad = simp (names, bad) refl

  pub bits_of_no_size : is_ycbcr_format format ≡ true → (count == sample_bytes on.value.size) ≡ false → video_bits d surface format count ≡ Err BadSize
  bits_of_no_size is other = simp (names, is, other) refl

  pub bits_found : is_ycbcr_format format ≡ true → (count == sample_bytes on.value.size) ≡ true → video_bits d surface format count ≡ Ok on
  bits_found is same = simp (names, is, same) refl

-- the samples are as many as the size says
pub counted : (core : Core) (d : State) (arg name index : ℕ) (surface : VideoSurface) (has : HasContent (kept_of core.objects) index (content.Video surface))
    → (found : IsFound model.as_video (λ of. model.VideoObject of) core arg name d index (content.Video surface))
    → byte_count (value_of surface.samples) ≡ sample_bytes found.value.size
counted core d arg name index surface has found =
    let s = core.sound.videos index has.object surface has.there has.has in
    (λ i. s.1.width i * s.1.height i * 3 / 2) ∙ ap sample_bytes found.is.0

pub is_video_of : (what : Content) → is_video what ≡ true → (surface : VideoSurface) × (what ≡ content.Video surface)
is_video_of (content.Device of) is = absurd (false≢true is)
is_video_of (content.Video of) is = (of, refl)
is_video_of (content.Output of) is = absurd (false≢true is)
is_video_of (content.Decoder of) is = absurd (false≢true is)
is_video_of (content.Mixer of) is = absurd (false≢true is)
is_video_of (content.Queue of) is = absurd (false≢true is)

-- what is found where nothing is refused
module _ (core : Core) (surface format count index : ℕ) (live : IsLiveAt is_video (kept_of core.objects) index) (finds : FindsAt model.as_video (λ of. model.VideoObject of) core 0 surface index)
    (is : is_ycbcr_format format ≡ true) (bytes : HasBytes (kept_of core.objects) count index) (object : Object) (there : slice_get (kept_of core.objects) index ≡ Some object) (d : State) (stands : Stands core d) where
  pub record FoundBits (what : VideoSurface) : Type 0 where
    pub kind : kind_number object.content ≡ number.VIDEO_SURFACE
    pub value : model.VideoSurface
    pub is_content : IsContent core.queues (is_owed d object.place) (model.VideoObject value) (content.Video what)
    pub looks : video_bits d surface format count ≡ Ok (record { place = object.place; device = object.device; value = value })

  pub found_bits : (what : VideoSurface) → HasContent (kept_of core.objects) index (content.Video what) → FoundBits what
  found_bits what has =
      let found = finds (content.Video what) has d stands in
      let size : (count == sample_bytes found.value.size) ≡ true = let e = bytes what has ∙ counted core d 0 surface index what has found in grind (arith, nat_tests, e) in
      let looks = bits_found d surface format count _ found.looks is size in
      let same : found.object ≡ object = one_kept (kept_of core.objects) index found.object object found.there there in
      record {
        kind = ap (λ (o : Object). kind_number o.content) (sym same) ∙ ap kind_number found.has;
        value = found.value;
        is_content = subst (λ (o : Object). IsContent core.queues (is_owed d o.place) (model.VideoObject found.value) (content.Video what)) same found.is;
        looks = looks ∙ (λ i. Ok (record { place = (same i).place; device = (same i).device; value = found.value }));
      }

  -- the call waits while the surface is out
  pub bits_wait : is_out d object.place ≡ true → FoundAnd (video_bits d surface format count) (λ on. is_out d on.place)
  bits_wait out =
      let v = is_video_of live.object.content live.of_kind in
      let found = found_bits v.0 (record { object = live.object; there = live.there; has = v.1 }) in
      subst (λ (l : Looked (Found model.VideoSurface)). FoundAnd l (λ on. is_out d on.place)) (sym found.looks) out
