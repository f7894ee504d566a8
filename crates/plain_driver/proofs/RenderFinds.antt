-- What a render finds, by the places that looks told.
use Rattle.std.proofs.Common.{◌≡◌, ℕ, ◌<◌, ◌==◌, Bool, true, false, not, ◌||◌, List, length, map, Option, Some, Ok, Err, refl, ap, sym, ◌∙◌, subst}
use Rattle.std.specs.Option.{option_map_or}
use Rattle.cb_types.specs.declared.picture_info.PictureInfo.{PictureInfo}
use Rattle.cb_types.specs.declared.picture_info.Reference.{Reference}
use Rattle.vd_status.specs.declared.refusal.Refusal.{Refusal}
use Rattle.vd_status.specs.declared.refusal.Refusal.TheVariants.{BadSize, TargetIsReference}
use Rattle.driver_model.specs.Objects.{Decoder, VideoSurface, as_decoder, as_video}
use Rattle.driver_model.specs.Refusals.{Looked, ◌>>=◌, ◌>>◌, first_handle, further_handle, refused_if}
use Rattle.driver_model.specs.Renders.{Rendering, info_taken, is_of_other_size, is_own_reference, is_render_held, references, render, rendering}
use Rattle.driver_model.specs.Sizes.{is_same_size}
use Rattle.driver_model.specs.States.{State, Found, content_at, is_out, named}
use Rattle.driver_model.proofs.Looks.{err_not_ok, ok_is, refused_if-Ok, then_ok, unless_ok}
use Rattle.plain_driver.specs.Looks.{device_at, placed}
use Rattle.plain_driver.specs.Rendering.{all_placed, is_other_size_at, place_of_found, render_placed, some_place}
use Rattle.plain_driver.specs.declared.renders.RenderPlaces.{RenderPlaces}
use Rattle.plain_driver.proofs.Goes.{at_place, some_one}
use Rattle.plain_driver.proofs.MixLooks.{further_place, further_refused, size_is}
use Rattle.plain_driver.proofs.RenderLooks.{AreHeld, references_held, some_place-is}

lists_are : (a b : List (Option ℕ)) → (let x : Looked (List (Option ℕ)) = Ok a in x ≡ Ok b) → a ≡ b
lists_are a b e = cc

list_errs : (a b : Refusal) → (let x : Looked (List (Option ℕ)) = Err a in x ≡ Err b) → a ≡ b
list_errs a b e = cc

all_placed-Ok : (looked : Looked (List (Option (Found VideoSurface)))) (places : List (Option ℕ)) → Ok places ≡ all_placed looked → (found : List (Option (Found VideoSurface))) × (looked ≡ Ok found) × (map place_of_found found ≡ places)
all_placed-Ok (Ok found) places e = (found, refl, sym (lists_are places (map place_of_found found) e))
all_placed-Ok (Err refusal) places e = absurd (err_not_ok refusal places (sym e))

all_placed-Err : (looked : Looked (List (Option (Found VideoSurface)))) (refusal : Refusal) → Err refusal ≡ all_placed looked → looked ≡ Err refusal
all_placed-Err (Ok found) refusal e = absurd (err_not_ok refusal (map place_of_found found) e)
all_placed-Err (Err other) refusal e = ap Err (list_errs other refusal (sym e))

module _ (s : State) (handle surface : ℕ) (entries : List Reference) where
  with_all : Found Decoder → Found VideoSurface → List (Option (Found VideoSurface)) → Looked Rendering
  with_all m v fs = Ok (record { decoder = m; target = v; references = fs })

  behind_target : Found Decoder → Found VideoSurface → Looked Rendering
  behind_target m v = references s m.device 2 entries >>= with_all m v

  behind_decoder : Found Decoder → Looked Rendering
  behind_decoder m = further_handle 1 m.device (named s as_video surface) >>= behind_target m

  by_decoder : (m : Found Decoder) → first_handle s (named s as_decoder handle) ≡ Ok m → rendering s handle surface entries ≡ behind_decoder m
  unfolding with_all behind_target behind_decoder
  by_decoder m is = ap (λ x. x >>= behind_decoder) is

  by_target : (m : Found Decoder) (v : Found VideoSurface) → first_handle s (named s as_decoder handle) ≡ Ok m → further_handle 1 m.device (named s as_video surface) ≡ Ok v → rendering s handle surface entries ≡ behind_target m v
  unfolding behind_decoder
  by_target m v is is_video = by_decoder m is ∙ ap (λ x. x >>= behind_target m) is_video

  module _ (decoder told : ℕ) (is_decoder : Ok decoder ≡ placed (first_handle s (named s as_decoder handle))) (is_device : told ≡ device_at s decoder) where
    pub no_target : (refusal : Refusal) → Err refusal ≡ placed (further_handle 1 told (named s as_video surface)) → Err refusal ≡ render_placed (rendering s handle surface entries)
    unfolding behind_decoder
    no_target refusal e =
        let on = at_place as_decoder handle s decoder is_decoder in
        sym (ap render_placed (by_decoder on.found on.is ∙ ap (λ x. x >>= behind_target on.found) (further_refused as_video surface s 1 told on.found.device refusal (is_device ∙ on.device) e)))

    module _ (target : ℕ) (is_target : Ok target ≡ placed (further_handle 1 told (named s as_video surface))) where
      pub no_reference : (refusal : Refusal) → Err refusal ≡ all_placed (references s told 2 entries) → Err refusal ≡ render_placed (rendering s handle surface entries)
      unfolding behind_target
      no_reference refusal e =
          let on = at_place as_decoder handle s decoder is_decoder in
          let v = further_place as_video surface s 1 told on.found.device target (is_device ∙ on.device) is_target in
          let none = all_placed-Err (references s on.found.device 2 entries) refusal (e ∙ ap (λ d. all_placed (references s d 2 entries)) (is_device ∙ on.device)) in
          sym (ap render_placed (by_target on.found v.found on.is v.is ∙ ap (λ x. x >>= with_all on.found v.found) none))

      pub all_found : (places : List (Option ℕ)) → Ok places ≡ all_placed (references s told 2 entries) → Ok (record { decoder = decoder; target = target; references = places }) ≡ render_placed (rendering s handle surface entries)
      unfolding behind_target with_all
      all_found places e =
          let on = at_place as_decoder handle s decoder is_decoder in
          let v = further_place as_video surface s 1 told on.found.device target (is_device ∙ on.device) is_target in
          let fs = all_placed-Ok (references s on.found.device 2 entries) places (e ∙ ap (λ d. all_placed (references s d 2 entries)) (is_device ∙ on.device)) in
          sym (ap render_placed (by_target on.found v.found on.is v.is ∙ ap (λ x. x >>= with_all on.found v.found) fs.1)
          ∙ (ap (λ p. let x : RenderPlaces = record { decoder = p; target = v.found.place; references = map place_of_found fs.0 } in Ok x) on.at
          ∙ (ap (λ p. let x : RenderPlaces = record { decoder = decoder; target = p; references = map place_of_found fs.0 } in Ok x) v.at
          ∙ ap (λ p. let x : RenderPlaces = record { decoder = decoder; target = target; references = p } in Ok x) fs.2)))

places_are : (a b : RenderPlaces) → (let x : Looked RenderPlaces = Ok a in x ≡ Ok b) → a ≡ b
places_are a b e = cc

place_errs : (a b : Refusal) → (let x : Looked RenderPlaces = Err a in x ≡ Err b) → a ≡ b
place_errs a b e = cc

render_placed-Ok : (looked : Looked Rendering) (places : RenderPlaces) → Ok places ≡ render_placed looked
    → (found : Rendering) × (looked ≡ Ok found) × (found.decoder.place ≡ places.decoder) × (found.target.place ≡ places.target) × (map place_of_found found.references ≡ places.references)
render_placed-Ok (Ok found) places e =
    let same = places_are places (record { decoder = found.decoder.place; target = found.target.place; references = map place_of_found found.references }) e in
    (found, refl, sym (ap (λ (p : RenderPlaces). p.decoder) same), sym (ap (λ (p : RenderPlaces). p.target) same), sym (ap (λ (p : RenderPlaces). p.references) same))
render_placed-Ok (Err refusal) places e = absurd (err_not_ok refusal places (sym e))

pub render_placed-Err : (looked : Looked Rendering) (refusal : Refusal) → Err refusal ≡ render_placed looked → looked ≡ Err refusal
render_placed-Err (Ok found) refusal e = absurd (err_not_ok refusal (record { decoder = found.decoder.place; target = found.target.place; references = map place_of_found found.references }) e)
render_placed-Err (Err other) refusal e = ap Err (place_errs other refusal (sym e))

-- what stands where a render found it
pub record StandsAt (s : State) (found : Rendering) (places : RenderPlaces) : Type 0 where
  pub at_target : found.target.place ≡ places.target
  pub at_references : map place_of_found found.references ≡ places.references
  pub of_decoder : content_at s as_decoder places.decoder ≡ Some found.decoder.value
  pub of_target : content_at s as_video places.target ≡ Some found.target.value
  pub held : AreHeld s found.references
  pub below : places.target < length s.objects

stands_at : (s : State) (handle surface : ℕ) (entries : List Reference) (found : Rendering) (places : RenderPlaces) → rendering s handle surface entries ≡ Ok found → found.decoder.place ≡ places.decoder → found.target.place ≡ places.target → map place_of_found found.references ≡ places.references → StandsAt s found places
unfolding with_all behind_target behind_decoder
stands_at s handle surface entries found places told at_decoder at_target at_references =
    let one = then_ok (first_handle s (named s as_decoder handle)) (behind_decoder s handle surface entries) found told in
    let two = then_ok (further_handle 1 one.0.device (named s as_video surface)) (behind_target s handle surface entries one.0) found one.2 in
    let three = then_ok (references s one.0.device 2 entries) (with_all s handle surface entries one.0 two.0) found two.2 in
    let same = ok_is (let x : Rendering = record { decoder = one.0; target = two.0; references = three.0 } in x) found three.2 in
    let same_m : one.0 ≡ found.decoder = ap (λ (x : Rendering). x.decoder) same in
    let same_v : two.0 ≡ found.target = ap (λ (x : Rendering). x.target) same in
    let on = at_place as_decoder handle s places.decoder (sym (ap placed one.1 ∙ ap Ok (ap (λ (f : Found Decoder). f.place) same_m ∙ at_decoder))) in
    let here : on.found ≡ one.0 = ok_is on.found one.0 (sym on.is ∙ one.1) in
    let on_v = further_place as_video surface s 1 one.0.device one.0.device places.target refl (sym (ap placed two.1 ∙ ap Ok (ap (λ (f : Found VideoSurface). f.place) same_v ∙ at_target))) in
    let here_v : on_v.found ≡ two.0 = ok_is on_v.found two.0 (sym on_v.is ∙ two.1) in
    record {
      at_target = at_target;
      at_references = at_references;
      of_decoder = on.content ∙ ap (λ (f : Found Decoder). Some f.value) (here ∙ same_m);
      of_target = on_v.content ∙ ap (λ (f : Found VideoSurface). Some f.value) (here_v ∙ same_v);
      held = subst (λ (x : Rendering). AreHeld s x.references) same (references_held s one.0.device 2 entries three.0 three.1);
      below = on_v.below;
    }

module _ (s : State) (on : Rendering) (places : RenderPlaces) (at : StandsAt s on places) where
  pub own_is : is_own_reference on ≡ some_place (λ place. place == places.target) places.references
  own_is =
      some_place-is s (λ found. found.place == on.target.place) (λ place. place == on.target.place) (λ found stands. refl) on.references at.held
      ∙ (ap (λ p. some_place (λ place. place == p) (map place_of_found on.references)) at.at_target ∙ ap (some_place (λ place. place == places.target)) at.at_references)

  other_at : (found : Found VideoSurface) → content_at s as_video found.place ≡ Some found.value → not (is_same_size found.value.size on.decoder.value.size) ≡ is_other_size_at s on.decoder.value.size found.place
  other_at found stands = sym (ap (λ o. option_map_or (λ (of : VideoSurface). not (is_same_size of.size on.decoder.value.size)) o false) stands)

  pub other_is : is_of_other_size on ≡ (is_other_size_at s on.decoder.value.size places.target || some_place (is_other_size_at s on.decoder.value.size) places.references)
  other_is =
      let size = on.decoder.value.size in
      let target : not (is_same_size on.target.value.size size) ≡ is_other_size_at s size places.target = sym (ap (λ o. option_map_or (λ (of : VideoSurface). not (is_same_size of.size size)) o false) at.of_target) in
      let rest = some_place-is s (λ found. not (is_same_size found.value.size size)) (is_other_size_at s size) other_at on.references at.held ∙ ap (some_place (is_other_size_at s size)) at.at_references in
      ap (λ b. not (is_same_size on.target.value.size size) || b) rest ∙ ap (λ b. b || some_place (is_other_size_at s size) places.references) target

  pub held_is : is_render_held s on ≡ (is_out s places.target || some_place (is_out s) places.references)
  held_is =
      let rest = some_place-is s (λ found. is_out s found.place) (is_out s) (λ found stands. refl) on.references at.held ∙ ap (some_place (is_out s)) at.at_references in
      ap (λ b. is_out s on.target.place || b) rest ∙ ap (λ p. is_out s p || some_place (is_out s) places.references) at.at_target

module _ (s : State) (handle surface : ℕ) (info : PictureInfo) where
  at_info : Rendering → Looked Rendering
  at_info on = info_taken on.decoder.value info >> Ok on

  at_sizes : Rendering → Looked Rendering
  at_sizes on = refused_if (is_of_other_size on) BadSize >> at_info on

  at_own : Rendering → Looked Rendering
  at_own on = refused_if (is_own_reference on) TargetIsReference >> at_sizes on

  pub record RenderAt (looked : Looked Rendering) (places : RenderPlaces) : Type 0 where
    pub found : Rendering
    pub is : looked ≡ Ok found
    pub at_decoder : found.decoder.place ≡ places.decoder
    pub stands : StandsAt s found places

  pub rendering-at : (places : RenderPlaces) → Ok places ≡ render_placed (rendering s handle surface info.references) → RenderAt (rendering s handle surface info.references) places
  rendering-at places told =
      let all = render_placed-Ok (rendering s handle surface info.references) places told in
      record { found = all.0; is = all.1; at_decoder = all.2; stands = stands_at s handle surface info.references all.0 places all.1 all.2 all.3 all.4 }

  module _ (places : RenderPlaces) (told : Ok places ≡ render_placed (rendering s handle surface info.references)) where
    by_rendering : (on : Rendering) → rendering s handle surface info.references ≡ Ok on → render s handle surface info ≡ at_own on
    unfolding at_info at_sizes at_own
    by_rendering on is = ap (λ x. x >>= at_own) is

    pub not_found : (refusal : Refusal) → Err refusal ≡ refused_if (some_place (λ place. place == places.target) places.references) TargetIsReference → Err refusal ≡ render_placed (render s handle surface info)
    unfolding at_own
    not_found refusal e =
        let r = rendering-at places told in
        let own = e ∙ ap (λ b. refused_if b TargetIsReference) (sym (own_is s r.found places r.stands)) in
        sym (ap render_placed (by_rendering r.found r.is ∙ ap (λ x. x >> at_sizes r.found) (sym own)))

    module _ (own : Ok tt ≡ refused_if (some_place (λ place. place == places.target) places.references) TargetIsReference) (d : Decoder) (of_decoder : content_at s as_decoder places.decoder ≡ Some d) where
      by_own : (r : RenderAt (rendering s handle surface info.references) places) → render s handle surface info ≡ at_sizes r.found
      unfolding at_own
      by_own r = by_rendering r.found r.is ∙ ap (λ x. x >> at_sizes r.found) (sym (own ∙ ap (λ b. refused_if b TargetIsReference) (sym (own_is s r.found places r.stands))))

      sizes_by : (r : RenderAt (rendering s handle surface info.references) places) → refused_if (is_other_size_at s d.size places.target || some_place (is_other_size_at s d.size) places.references) BadSize ≡ refused_if (is_of_other_size r.found) BadSize
      sizes_by r =
          let same : d ≡ r.found.decoder.value = some_one d r.found.decoder.value (sym of_decoder ∙ r.stands.of_decoder) in
          ap (λ (x : Decoder). refused_if (is_other_size_at s x.size places.target || some_place (is_other_size_at s x.size) places.references) BadSize) same
          ∙ ap (λ b. refused_if b BadSize) (sym (other_is s r.found places r.stands))

      pub not_sized : (refusal : Refusal) → Err refusal ≡ refused_if (is_other_size_at s d.size places.target || some_place (is_other_size_at s d.size) places.references) BadSize → Err refusal ≡ render_placed (render s handle surface info)
      unfolding at_sizes
      not_sized refusal e =
          let r = rendering-at places told in
          sym (ap render_placed (by_own r ∙ ap (λ x. x >> at_info r.found) (sym (e ∙ sizes_by r))))

      module _ (sizes : Ok tt ≡ refused_if (is_other_size_at s d.size places.target || some_place (is_other_size_at s d.size) places.references) BadSize) where
        by_sizes : (r : RenderAt (rendering s handle surface info.references) places) → render s handle surface info ≡ at_info r.found
        unfolding at_sizes
        by_sizes r = by_own r ∙ ap (λ x. x >> at_info r.found) (sym (sizes ∙ sizes_by r))

        info_by : (r : RenderAt (rendering s handle surface info.references) places) → info_taken d info ≡ info_taken r.found.decoder.value info
        info_by r = ap (λ (x : Decoder). info_taken x info) (some_one d r.found.decoder.value (sym of_decoder ∙ r.stands.of_decoder))

        pub not_taken : (refusal : Refusal) → Err refusal ≡ info_taken d info → Err refusal ≡ render_placed (render s handle surface info)
        unfolding at_info
        not_taken refusal e =
            let r = rendering-at places told in
            sym (ap render_placed (by_sizes r ∙ ap (λ x. x >> Ok r.found) (sym (e ∙ info_by r))))

        pub taken : Ok tt ≡ info_taken d info → Ok places ≡ render_placed (render s handle surface info)
        unfolding at_info
        taken e =
            let r = rendering-at places told in
            told ∙ (ap render_placed r.is ∙ sym (ap render_placed (by_sizes r ∙ ap (λ x. x >> Ok r.found) (sym (e ∙ info_by r)))))

  -- and of the whole look
  pub record TakenAt (places : RenderPlaces) : Type 0 where
    pub found : Rendering
    pub is : render s handle surface info ≡ Ok found
    pub stands : StandsAt s found places
    pub one_size : found.target.value.size ≡ found.decoder.value.size

  same_by : (a b : Bool) → (not a || b) ≡ false → a ≡ true
  same_by true b e = refl
  same_by false b e = absurd (let k : true ≡ false = e in cc)

  pub render-at : (places : RenderPlaces) → Ok places ≡ render_placed (render s handle surface info) → TakenAt places
  unfolding at_info at_sizes at_own
  render-at places told =
      let all = render_placed-Ok (render s handle surface info) places told in
      let a = then_ok (rendering s handle surface info.references) at_own all.0 all.1 in
      let b = unless_ok (refused_if (is_own_reference a.0) TargetIsReference) (at_sizes a.0) all.0 a.2 in
      let c = unless_ok (refused_if (is_of_other_size a.0) BadSize) (at_info a.0) all.0 b.1 in
      let d = unless_ok (info_taken a.0.decoder.value info) (Ok a.0) all.0 c.1 in
      let same : a.0 ≡ all.0 = ok_is a.0 all.0 d.1 in
      let sized : is_same_size a.0.target.value.size a.0.decoder.value.size ≡ true = same_by _ _ (refused_if-Ok (is_of_other_size a.0) BadSize c.0) in
      record {
        found = all.0;
        is = all.1;
        stands = stands_at s handle surface info.references all.0 places (a.1 ∙ ap Ok same) all.2 all.3 all.4;
        one_size = subst (λ (x : Rendering). x.target.value.size ≡ x.decoder.value.size) same (size_is a.0.target.value.size a.0.decoder.value.size sized);
      }
