-- What the calls on an output surface's pixels look at.
use Rattle.std.proofs.Common.{◌≡◌, ℕ, ◌==◌, true, false, length, slice_get, Some, Ok, Err, refl, sym, ap, ◌∙◌, subst, arith, rules}
use mathlib.Core.Bool.{false≢true}
use Rattle.std.proofs.lemmas.Bool.Decides.{nat_tests}
use Rattle.cb_types.specs.SizeMbs.{IsWithinLimits}
use Rattle.vd_status.specs.declared.refusal.Refusal.TheVariants.{BadSize}
use Rattle.driver_model.specs.Objects as model
use Rattle.driver_model.specs.Refusals.{Looked}
use Rattle.driver_model.specs.Sizes.{is_rgba_format, pixel_bytes}
use Rattle.driver_model.specs.States.{Found, State, is_out}
use Rattle.driver_model.specs.Surfaces.{output, output_bits}
use Rattle.driver_model.specs.Waits.{FoundAnd}
use Rattle.driver_model.specs.declared.numbers.TheConstants as number
use Rattle.driver_objects.specs.Contents.{HasContent}
use Rattle.driver_objects.specs.Kept.{kept_of}
use Rattle.driver_objects.specs.Kinds.{is_output, kind_number}
use Rattle.driver_objects.specs.Stored.{value_of}
use Rattle.driver_objects.specs.declared.content.Content.{Content}
use Rattle.driver_objects.specs.declared.content.Content.TheVariants as content
use Rattle.driver_objects.specs.declared.content.OutputSurface.{OutputSurface}
use Rattle.driver_objects.specs.declared.object.Object.{Object}
use Rattle.driver_objects.proofs.Lists.{one_kept}
use Rattle.driver_core.specs.Found.{FindsAt, HasPixels, IsFound}
use Rattle.driver_core.specs.Roles.{Fits, IsLiveAt}
use Rattle.driver_core.specs.Stands.{IsContent, Stands, is_owed}
use Rattle.driver_core.specs.declared.driver.Core.{Core}

module _ (d : State) (surface count : ℕ) (on : Found model.OutputSurface) (names : output d surface ≡ Ok on) where
  pub pixels_of_no_size : (count == pixel_bytes on.value.size) ≡ false → output_bits d surface count ≡ Err BadSize
  pixels_of_no_size other = simp (names, other) refl

  pub pixels_found : (count == pixel_bytes on.value.size) ≡ true → output_bits d surface count ≡ Ok on
  pixels_found same = simp (names, same) refl

-- the pixels are as many as the size says
pub pixels_counted : (core : Core) (d : State) (arg name index : ℕ) (surface : OutputSurface) (has : HasContent (kept_of core.objects) index (content.Output surface))
    → (found : IsFound model.as_output (λ of. model.OutputObject of) core arg name d index (content.Output surface))
    → length (value_of surface.pixels).items ≡ pixel_bytes found.value.size
pixels_counted core d arg name index surface has found =
    let s = core.sound.outputs index has.object surface has.there has.has in
    s.1 ∙ ap pixel_bytes found.is.1

is_output_of : (what : Content) → is_output what ≡ true → (surface : OutputSurface) × (what ≡ content.Output surface)
is_output_of (content.Device of) is = absurd (false≢true is)
is_output_of (content.Video of) is = absurd (false≢true is)
is_output_of (content.Output of) is = (of, refl)
is_output_of (content.Decoder of) is = absurd (false≢true is)
is_output_of (content.Mixer of) is = absurd (false≢true is)
is_output_of (content.Queue of) is = absurd (false≢true is)

pub output_fits : (surface : OutputSurface) → IsWithinLimits surface.size → length (value_of surface.pixels).items ≡ pixel_bytes surface.size → is_rgba_format surface.format ≡ true → Fits (content.Output surface)
output_fits surface size pixels format = search rules

-- what is found where nothing is refused
module _ (core : Core) (surface count index : ℕ) (live : IsLiveAt is_output (kept_of core.objects) index) (finds : FindsAt model.as_output (λ of. model.OutputObject of) core 0 surface index)
    (bytes : HasPixels (kept_of core.objects) count index) (object : Object) (there : slice_get (kept_of core.objects) index ≡ Some object) (d : State) (stands : Stands core d) where
  pub record FoundPixels (what : OutputSurface) : Type 0 where
    pub kind : kind_number object.content ≡ number.OUTPUT_SURFACE
    pub value : model.OutputSurface
    pub is_content : IsContent core.queues (is_owed d object.place) (model.OutputObject value) (content.Output what)
    pub looks : output_bits d surface count ≡ Ok (record { place = object.place; device = object.device; value = value })

  pub found_pixels : (what : OutputSurface) → HasContent (kept_of core.objects) index (content.Output what) → FoundPixels what
  found_pixels what has =
      let found = finds (content.Output what) has d stands in
      let size : (count == pixel_bytes found.value.size) ≡ true = let e = bytes what has ∙ pixels_counted core d 0 surface index what has found in grind (arith, nat_tests, e) in
      let looks = pixels_found d surface count _ found.looks size in
      let same : found.object ≡ object = one_kept (kept_of core.objects) index found.object object found.there there in
      record {
        kind = ap (λ (o : Object). kind_number o.content) (sym same) ∙ ap kind_number found.has;
        value = found.value;
        is_content = subst (λ (o : Object). IsContent core.queues (is_owed d o.place) (model.OutputObject found.value) (content.Output what)) same found.is;
        looks = looks ∙ (λ i. Ok (record { place = (same i).place; device = (same i).device; value = found.value }));
      }

  -- the call waits while the surface is out
  pub pixels_wait : is_out d object.place ≡ true → FoundAnd (output_bits d surface count) (λ on. is_out d on.place)
  pixels_wait out =
      let v = is_output_of live.object.content live.of_kind in
      let found = found_pixels v.0 (record { object = live.object; there = live.there; has = v.1 }) in
      subst (λ (l : Looked (Found model.OutputSurface)). FoundAnd l (λ on. is_out d on.place)) (sym found.looks) out
