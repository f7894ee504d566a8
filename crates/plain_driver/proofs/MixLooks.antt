-- What a mix finds, and its step.
use Rattle.std.proofs.Common.{◌≡◌, ℕ, ◌<◌, ◌==◌, Bool, true, false, not, ◌&&◌, if◌then◌else◌, length, Option, Some, None, Ok, Err, refl, ap, sym, ◌∙◌, subst, eqb-true}
use Rattle.cb_types.specs.declared.size.SizeMbs.{SizeMbs}
use Rattle.vd_status.specs.declared.refusal.Refusal.{Refusal}
use Rattle.vd_status.specs.declared.refusal.Refusal.TheVariants.{BadSize, BadStructure, DeviceMismatch}
use Rattle.driver_model.specs.Mixes.{Mixing, mix}
use Rattle.driver_model.specs.Objects.{Content, OutputSurface, VideoMixer, VideoSurface, as_mixer, as_output, as_video}
use Rattle.driver_model.specs.Refusals.{Looked, ◌>>=◌, ◌>>◌, first_handle, further_handle, refused_if}
use Rattle.driver_model.specs.Sizes.{is_same_size}
use Rattle.driver_model.specs.States.{State, Found, content_at, named}
use Rattle.driver_model.specs.declared.numbers.TheConstants.{FRAME}
use Rattle.driver_model.proofs.Looks.{err_not_ok, ok_is, refused_if-Ok, then_ok, unless_ok}
use Rattle.plain_driver.specs.Looks.{device_at, placed}
use Rattle.plain_driver.specs.Mixing.{fit_together, mix_placed}
use Rattle.plain_driver.specs.declared.mixes.MixPlaces.{MixPlaces}
use Rattle.plain_driver.proofs.Goes.{at_place, below-named, content_at-named, placed-Err, placed-Ok, some_one}

pub further-Ok : {T : Type 0} (arg device : ℕ) (found : Option (Found T)) (on : Found T) → further_handle arg device found ≡ Ok on → found ≡ Some on
further-Ok arg device None on h = absurd (err_not_ok _ on h)
further-Ok arg device (Some found) on h = same (found.device == device) h where
  same : (is_same : Bool) → (if is_same then Ok found else Err (DeviceMismatch arg)) ≡ Ok on → Some found ≡ Some on
  same true e = ap Some (ok_is found on e)
  same false e = absurd (err_not_ok (DeviceMismatch arg) on e)

-- what a further handle names stands at the place that a look told
pub record FurtherAt {T : Type 0} (as_kind : Content → Option T) (name : ℕ) (s : State) (arg device place : ℕ) : Type 0 where
  pub found : Found T
  pub is : further_handle arg device (named s as_kind name) ≡ Ok found
  pub at : found.place ≡ place
  pub content : content_at s as_kind place ≡ Some found.value
  pub below : place < length s.objects

pub further_place : {T : Type 0} (as_kind : Content → Option T) (name : ℕ) (s : State) (arg told device place : ℕ) → told ≡ device → Ok place ≡ placed (further_handle arg told (named s as_kind name)) → FurtherAt as_kind name s arg device place
further_place as_kind name s arg told device place same e =
    let on = placed-Ok (further_handle arg device (named s as_kind name)) place (e ∙ ap (λ d. placed (further_handle arg d (named s as_kind name))) same) in
    let is = further-Ok arg device (named s as_kind name) on.0 on.1 in
    record {
      found = on.0;
      is = on.1;
      at = on.2;
      content = subst (λ p. content_at s as_kind p ≡ Some on.0.value) on.2 (content_at-named as_kind name s on.0 is);
      below = subst (λ p. p < length s.objects) on.2 (below-named as_kind name s on.0 is);
    }

pub further_refused : {T : Type 0} (as_kind : Content → Option T) (name : ℕ) (s : State) (arg told device : ℕ) (refusal : Refusal) → told ≡ device → Err refusal ≡ placed (further_handle arg told (named s as_kind name)) → further_handle arg device (named s as_kind name) ≡ Err refusal
further_refused as_kind name s arg told device refusal same e = placed-Err (further_handle arg device (named s as_kind name)) refusal (e ∙ ap (λ d. placed (further_handle arg d (named s as_kind name))) same)

module _ (s : State) (handle structure surface onto : ℕ) where
  all_found : Found VideoMixer → Found VideoSurface → Found OutputSurface → Looked Mixing
  all_found m v o = Ok (record { mixer = m; video = v; output = o })

  at_size : Found VideoMixer → Found VideoSurface → Found OutputSurface → Looked Mixing
  at_size m v o = refused_if (not (is_same_size m.value.size v.value.size && is_same_size m.value.size o.value.size)) BadSize >> all_found m v o

  at_structure : Found VideoMixer → Found VideoSurface → Found OutputSurface → Looked Mixing
  at_structure m v o = refused_if (not (structure == FRAME)) BadStructure >> at_size m v o

  behind_video : Found VideoMixer → Found VideoSurface → Looked Mixing
  behind_video m v = further_handle 2 m.device (named s as_output onto) >>= at_structure m v

  behind_mixer : Found VideoMixer → Looked Mixing
  behind_mixer m = further_handle 1 m.device (named s as_video surface) >>= behind_video m

  module _ (m : Found VideoMixer) (is_mixer : first_handle s (named s as_mixer handle) ≡ Ok m) where
    by_mixer : mix s handle structure surface onto ≡ behind_mixer m
    unfolding all_found at_size at_structure behind_video behind_mixer
    by_mixer = ap (λ x. x >>= behind_mixer) is_mixer

    pub mix-no_video : (refusal : Refusal) → further_handle 1 m.device (named s as_video surface) ≡ Err refusal → Err refusal ≡ mix_placed (mix s handle structure surface onto)
    unfolding behind_mixer
    mix-no_video refusal e = sym (ap mix_placed (by_mixer ∙ ap (λ x. x >>= behind_video m) e))

    module _ (v : Found VideoSurface) (is_video : further_handle 1 m.device (named s as_video surface) ≡ Ok v) where
      by_video : mix s handle structure surface onto ≡ behind_video m v
      unfolding behind_mixer
      by_video = by_mixer ∙ ap (λ x. x >>= behind_video m) is_video

      pub mix-no_output : (refusal : Refusal) → further_handle 2 m.device (named s as_output onto) ≡ Err refusal → Err refusal ≡ mix_placed (mix s handle structure surface onto)
      unfolding behind_video
      mix-no_output refusal e = sym (ap mix_placed (by_video ∙ ap (λ x. x >>= at_structure m v) e))

      module _ (o : Found OutputSurface) (is_output : further_handle 2 m.device (named s as_output onto) ≡ Ok o) where
        by_output : mix s handle structure surface onto ≡ at_structure m v o
        unfolding behind_video
        by_output = by_video ∙ ap (λ x. x >>= at_structure m v) is_output

        pub mix-no_structure : (refusal : Refusal) → Err refusal ≡ refused_if (not (structure == FRAME)) BadStructure → Err refusal ≡ mix_placed (mix s handle structure surface onto)
        unfolding at_structure
        mix-no_structure refusal e = sym (ap mix_placed (by_output ∙ ap (λ x. x >> at_size m v o) (sym e)))

        pub mix-no_size : (refusal : Refusal) → Ok tt ≡ refused_if (not (structure == FRAME)) BadStructure → Err refusal ≡ refused_if (not (fit_together m.value.size v.value.size o.value.size)) BadSize → Err refusal ≡ mix_placed (mix s handle structure surface onto)
        unfolding at_structure at_size
        mix-no_size refusal e f = sym (ap mix_placed (by_output ∙ (ap (λ x. x >> at_size m v o) (sym e) ∙ ap (λ x. x >> all_found m v o) (sym f))))

        pub mix-found : Ok tt ≡ refused_if (not (structure == FRAME)) BadStructure → Ok tt ≡ refused_if (not (fit_together m.value.size v.value.size o.value.size)) BadSize
            → Ok (record { mixer = m.place; video = v.place; output = o.place }) ≡ mix_placed (mix s handle structure surface onto)
        unfolding all_found at_structure at_size
        mix-found e f = sym (ap mix_placed (by_output ∙ (ap (λ x. x >> at_size m v o) (sym e) ∙ ap (λ x. x >> all_found m v o) (sym f))))

-- the same, by the places that looks told
module _ (s : State) (handle structure surface onto mixer told : ℕ) (is_mixer : Ok mixer ≡ placed (first_handle s (named s as_mixer handle))) (is_device : told ≡ device_at s mixer) where
  pub refused_video : (refusal : Refusal) → Err refusal ≡ placed (further_handle 1 told (named s as_video surface)) → Err refusal ≡ mix_placed (mix s handle structure surface onto)
  refused_video refusal e =
      let on = at_place as_mixer handle s mixer is_mixer in
      mix-no_video s handle structure surface onto on.found on.is refusal (further_refused as_video surface s 1 told on.found.device refusal (is_device ∙ on.device) e)

  module _ (video : ℕ) (is_video : Ok video ≡ placed (further_handle 1 told (named s as_video surface))) where
    pub refused_output : (refusal : Refusal) → Err refusal ≡ placed (further_handle 2 told (named s as_output onto)) → Err refusal ≡ mix_placed (mix s handle structure surface onto)
    refused_output refusal e =
        let on = at_place as_mixer handle s mixer is_mixer in
        let v = further_place as_video surface s 1 told on.found.device video (is_device ∙ on.device) is_video in
        mix-no_output s handle structure surface onto on.found on.is v.found v.is refusal (further_refused as_output onto s 2 told on.found.device refusal (is_device ∙ on.device) e)

    module _ (output : ℕ) (is_output : Ok output ≡ placed (further_handle 2 told (named s as_output onto))) where
      pub refused_structure : (refusal : Refusal) → Err refusal ≡ refused_if (not (structure == FRAME)) BadStructure → Err refusal ≡ mix_placed (mix s handle structure surface onto)
      refused_structure refusal e =
          let on = at_place as_mixer handle s mixer is_mixer in
          let v = further_place as_video surface s 1 told on.found.device video (is_device ∙ on.device) is_video in
          let o = further_place as_output onto s 2 told on.found.device output (is_device ∙ on.device) is_output in
          mix-no_structure s handle structure surface onto on.found on.is v.found v.is o.found o.is refusal e

      module _ (m : VideoMixer) (v : VideoSurface) (o : OutputSurface) (of_mixer : content_at s as_mixer mixer ≡ Some m) (of_video : content_at s as_video video ≡ Some v) (of_output : content_at s as_output output ≡ Some o) where
        fit_by : (am : VideoMixer) (av : VideoSurface) (ao : OutputSurface) → m ≡ am → v ≡ av → o ≡ ao → refused_if (not (fit_together m.size v.size o.size)) BadSize ≡ refused_if (not (fit_together am.size av.size ao.size)) BadSize
        fit_by am av ao same_m same_v same_o =
            ap (λ (x : VideoMixer). refused_if (not (fit_together x.size v.size o.size)) BadSize) same_m
            ∙ (ap (λ (x : VideoSurface). refused_if (not (fit_together am.size x.size o.size)) BadSize) same_v
            ∙ ap (λ (x : OutputSurface). refused_if (not (fit_together am.size av.size x.size)) BadSize) same_o)

        pub refused_size : (refusal : Refusal) → Ok tt ≡ refused_if (not (structure == FRAME)) BadStructure → Err refusal ≡ refused_if (not (fit_together m.size v.size o.size)) BadSize → Err refusal ≡ mix_placed (mix s handle structure surface onto)
        refused_size refusal e f =
            let on = at_place as_mixer handle s mixer is_mixer in
            let on_v = further_place as_video surface s 1 told on.found.device video (is_device ∙ on.device) is_video in
            let on_o = further_place as_output onto s 2 told on.found.device output (is_device ∙ on.device) is_output in
            mix-no_size s handle structure surface onto on.found on.is on_v.found on_v.is on_o.found on_o.is refusal e
            (f ∙ fit_by on.found.value on_v.found.value on_o.found.value (some_one m on.found.value (sym of_mixer ∙ on.content)) (some_one v on_v.found.value (sym of_video ∙ on_v.content)) (some_one o on_o.found.value (sym of_output ∙ on_o.content)))

        pub all_are_found : Ok tt ≡ refused_if (not (structure == FRAME)) BadStructure → Ok tt ≡ refused_if (not (fit_together m.size v.size o.size)) BadSize → Ok (record { mixer = mixer; video = video; output = output }) ≡ mix_placed (mix s handle structure surface onto)
        all_are_found e f =
            let on = at_place as_mixer handle s mixer is_mixer in
            let on_v = further_place as_video surface s 1 told on.found.device video (is_device ∙ on.device) is_video in
            let on_o = further_place as_output onto s 2 told on.found.device output (is_device ∙ on.device) is_output in
            let all = mix-found s handle structure surface onto on.found on.is on_v.found on_v.is on_o.found on_o.is e
            (f ∙ fit_by on.found.value on_v.found.value on_o.found.value (some_one m on.found.value (sym of_mixer ∙ on.content)) (some_one v on_v.found.value (sym of_video ∙ on_v.content)) (some_one o on_o.found.value (sym of_output ∙ on_o.content))) in
            ap (λ p. let x : MixPlaces = record { mixer = p; video = video; output = output } in Ok x) (sym on.at)
            ∙ (ap (λ p. let x : MixPlaces = record { mixer = on.found.place; video = p; output = output } in Ok x) (sym on_v.at)
            ∙ (ap (λ p. let x : MixPlaces = record { mixer = on.found.place; video = on_v.found.place; output = p } in Ok x) (sym on_o.at) ∙ all))

places_are : (a b : MixPlaces) → (let x : Looked MixPlaces = Ok a in x ≡ Ok b) → a ≡ b
places_are a b e = cc

mix_placed-Ok : (looked : Looked Mixing) (places : MixPlaces) → Ok places ≡ mix_placed looked
    → (found : Mixing) × (looked ≡ Ok found) × (found.mixer.place ≡ places.mixer) × (found.video.place ≡ places.video) × (found.output.place ≡ places.output)
mix_placed-Ok (Ok found) places e =
    let same = places_are places (record { mixer = found.mixer.place; video = found.video.place; output = found.output.place }) e in
    (found, refl, sym (ap (λ (p : MixPlaces). p.mixer) same), sym (ap (λ (p : MixPlaces). p.video) same), sym (ap (λ (p : MixPlaces). p.output) same))
mix_placed-Ok (Err refusal) places e = absurd (err_not_ok refusal places (sym e))

not_not : (b : Bool) → not b ≡ false → b ≡ true
not_not true e = refl
not_not false e = absurd (let k : true ≡ false = e in cc)

both : (a b : Bool) → (a && b) ≡ true → (a ≡ true) × (b ≡ true)
both true b e = (refl, e)
both false b e = absurd (let k : false ≡ true = e in cc)

pub size_is : (a b : SizeMbs) → is_same_size a b ≡ true → a ≡ b
size_is a b e =
    let parts = both (a.width == b.width) (a.height == b.height) e in
    let wide : a.width ≡ b.width = eqb-true a.width b.width parts.0 in
    let high : a.height ≡ b.height = eqb-true a.height b.height parts.1 in
    ap (λ n. let z : SizeMbs = record { width = n; height = a.height } in z) wide ∙ ap (λ n. let z : SizeMbs = record { width = b.width; height = n } in z) high

-- what a mix found, by its places
pub record MixAt (s : State) (handle structure surface onto : ℕ) (places : MixPlaces) : Type 0 where
  pub found : Mixing
  pub is : mix s handle structure surface onto ≡ Ok found
  pub at_video : found.video.place ≡ places.video
  pub at_output : found.output.place ≡ places.output
  pub of_mixer : content_at s as_mixer places.mixer ≡ Some found.mixer.value
  pub of_video : content_at s as_video places.video ≡ Some found.video.value
  pub of_output : content_at s as_output places.output ≡ Some found.output.value
  pub below : places.output < length s.objects
  pub one_size : found.video.value.size ≡ found.output.value.size

pub mix-at : (s : State) (handle structure surface onto : ℕ) (places : MixPlaces) → Ok places ≡ mix_placed (mix s handle structure surface onto) → MixAt s handle structure surface onto places
unfolding all_found at_size at_structure behind_video behind_mixer
mix-at s handle structure surface onto places told =
    let all = mix_placed-Ok (mix s handle structure surface onto) places told in
    let one = then_ok (first_handle s (named s as_mixer handle)) (behind_mixer s handle structure surface onto) all.0 all.1 in
    let m = one.0 in
    let two = then_ok (further_handle 1 m.device (named s as_video surface)) (behind_video s handle structure surface onto m) all.0 one.2 in
    let v = two.0 in
    let three = then_ok (further_handle 2 m.device (named s as_output onto)) (at_structure s handle structure surface onto m v) all.0 two.2 in
    let o = three.0 in
    let four = unless_ok (refused_if (not (structure == FRAME)) BadStructure) (at_size s handle structure surface onto m v o) all.0 three.2 in
    let five = unless_ok (refused_if (not (fit_together m.value.size v.value.size o.value.size)) BadSize) (all_found s handle structure surface onto m v o) all.0 four.1 in
    let same = ok_is (let x : Mixing = record { mixer = m; video = v; output = o } in x) all.0 five.1 in
    let same_m : m ≡ all.0.mixer = ap (λ (x : Mixing). x.mixer) same in
    let same_v : v ≡ all.0.video = ap (λ (x : Mixing). x.video) same in
    let same_o : o ≡ all.0.output = ap (λ (x : Mixing). x.output) same in
    let fits = both (is_same_size m.value.size v.value.size) (is_same_size m.value.size o.value.size) (not_not _ (refused_if-Ok (not (fit_together m.value.size v.value.size o.value.size)) BadSize five.0)) in
    let sizes : v.value.size ≡ o.value.size = sym (size_is m.value.size v.value.size fits.0) ∙ size_is m.value.size o.value.size fits.1 in
    let on = at_place as_mixer handle s places.mixer (sym (ap placed one.1 ∙ ap Ok (ap (λ (f : Found VideoMixer). f.place) same_m ∙ all.2))) in
    let here : on.found ≡ m = ok_is on.found m (sym on.is ∙ one.1) in
    let on_v = further_place as_video surface s 1 m.device m.device places.video refl (sym (ap placed two.1 ∙ ap Ok (ap (λ (f : Found VideoSurface). f.place) same_v ∙ all.3))) in
    let here_v : on_v.found ≡ v = ok_is on_v.found v (sym on_v.is ∙ two.1) in
    let on_o = further_place as_output onto s 2 m.device m.device places.output refl (sym (ap placed three.1 ∙ ap Ok (ap (λ (f : Found OutputSurface). f.place) same_o ∙ all.4))) in
    let here_o : on_o.found ≡ o = ok_is on_o.found o (sym on_o.is ∙ three.1) in
    record {
      found = all.0;
      is = all.1;
      at_video = all.3;
      at_output = all.4;
      of_mixer = on.content ∙ ap (λ (f : Found VideoMixer). Some f.value) (here ∙ same_m);
      of_video = on_v.content ∙ ap (λ (f : Found VideoSurface). Some f.value) (here_v ∙ same_v);
      of_output = on_o.content ∙ ap (λ (f : Found OutputSurface). Some f.value) (here_o ∙ same_o);
      below = on_o.below;
      one_size = ap (λ (f : Found VideoSurface). f.value.size) (sym same_v) ∙ (sizes ∙ ap (λ (f : Found OutputSurface). f.value.size) same_o);
    }
