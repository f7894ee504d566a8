-- The target of a job that isn't refused.
use Rattle.std.proofs.Common.{◌≡◌, ℕ, ◌==◌, not, ◌&&◌, List, Option, Ok, ◌∙◌, subst}
use Rattle.cb_types.specs.declared.picture_info.PictureInfo.{PictureInfo}
use Rattle.vd_status.specs.declared.refusal.Refusal.TheVariants.{BadSize, BadStructure}
use Rattle.driver_model.specs.Mixes.{Mixing, mix}
use Rattle.driver_model.specs.Objects.{VideoSurface, OutputSurface, Decoder, VideoMixer, as_decoder, as_mixer, as_output, as_video}
use Rattle.driver_model.specs.Refusals.{Looked, ◌>>=◌, ◌>>◌, first_handle, further_handle, refused_if}
use Rattle.driver_model.specs.Renders.{Rendering, references, render, rendering}
use Rattle.driver_model.specs.States.{State, Found, named}
use Rattle.driver_model.proofs.Looks.{ok_is, then_ok, unless_ok}
use Rattle.driver_model.specs.Renders.{info_taken, is_of_other_size, is_own_reference}
use Rattle.driver_model.specs.Sizes.{is_same_size}
use Rattle.driver_model.specs.declared.numbers.TheConstants.{FRAME}
use Rattle.driver_model.proofs.SoundLooks.{Stands, further-Ok, named_stands}
use Rattle.vd_status.specs.declared.refusal.Refusal.TheVariants.{TargetIsReference}

module _ (s : State) where
  abbrev mixing_of : Found VideoMixer → Found VideoSurface → Found OutputSurface → Mixing
  mixing_of one two three = record { mixer = one; video = two; output = three }

  pub mix_stands : (handle structure surface onto : ℕ) (on : Mixing) → mix s handle structure surface onto ≡ Ok on → Stands s as_output on.output
  mix_stands handle structure surface onto on h =
      let sized : Found VideoMixer → Found VideoSurface → Found OutputSurface → Looked Mixing = λ one two three.
      refused_if (not (is_same_size one.value.size two.value.size && is_same_size one.value.size three.value.size)) BadSize >> Ok (mixing_of one two three) in
      let last : Found VideoMixer → Found VideoSurface → Found OutputSurface → Looked Mixing = λ one two three. refused_if (not (structure == FRAME)) BadStructure >> sized one two three in
      let third : Found VideoMixer → Found VideoSurface → Looked Mixing = λ one two. further_handle 2 one.device (named s as_output onto) >>= last one two in
      let second : Found VideoMixer → Looked Mixing = λ one. further_handle 1 one.device (named s as_video surface) >>= third one in
      let a = then_ok (first_handle s (named s as_mixer handle)) second on h in
      let b = then_ok (further_handle 1 a.0.device (named s as_video surface)) (third a.0) on a.2 in
      let c = then_ok (further_handle 2 a.0.device (named s as_output onto)) (last a.0 b.0) on b.2 in
      let d = unless_ok (refused_if (not (structure == FRAME)) BadStructure) (sized a.0 b.0 c.0) on c.2 in
      let e = unless_ok (refused_if (not (is_same_size a.0.value.size b.0.value.size && is_same_size a.0.value.size c.0.value.size)) BadSize) (Ok (mixing_of a.0 b.0 c.0)) on d.1 in
      let same : mixing_of a.0 b.0 c.0 ≡ on = ok_is (mixing_of a.0 b.0 c.0) on e.1 in
      let stands : Stands s as_output c.0 = named_stands s as_output onto c.0 (further-Ok 2 a.0.device (named s as_output onto) c.0 c.1).0 in
      subst (λ (m : Mixing). Stands s as_output m.output) same stands

  abbrev rendering_of : Found Decoder → Found VideoSurface → List (Option (Found VideoSurface)) → Rendering
  rendering_of one two three = record { decoder = one; target = two; references = three }

  pub render_stands : (handle surface : ℕ) (info : PictureInfo) (on : Rendering) → render s handle surface info ≡ Ok on → Stands s as_video on.target
  render_stands handle surface info on h =
      let taken : Rendering → Looked Rendering = λ at. info_taken at.decoder.value info >> Ok at in
      let sized : Rendering → Looked Rendering = λ at. refused_if (is_of_other_size at) BadSize >> taken at in
      let own : Rendering → Looked Rendering = λ at. refused_if (is_own_reference at) TargetIsReference >> sized at in
      let a = then_ok (rendering s handle surface info.references) own on h in
      let b = unless_ok (refused_if (is_own_reference a.0) TargetIsReference) (sized a.0) on a.2 in
      let c = unless_ok (refused_if (is_of_other_size a.0) BadSize) (taken a.0) on b.1 in
      let d = unless_ok (info_taken a.0.decoder.value info) (Ok a.0) on c.1 in
      let same : a.0 ≡ on = ok_is a.0 on d.1 in
      let last : Found Decoder → Found VideoSurface → List (Option (Found VideoSurface)) → Looked Rendering = λ one two three. Ok (rendering_of one two three) in
      let third : Found Decoder → Found VideoSurface → Looked Rendering = λ one two. references s one.device 2 info.references >>= last one two in
      let second : Found Decoder → Looked Rendering = λ one. further_handle 1 one.device (named s as_video surface) >>= third one in
      let f = then_ok (first_handle s (named s as_decoder handle)) second a.0 a.1 in
      let g = then_ok (further_handle 1 f.0.device (named s as_video surface)) (third f.0) a.0 f.2 in
      let k = then_ok (references s f.0.device 2 info.references) (last f.0 g.0) a.0 g.2 in
      let whole : rendering_of f.0 g.0 k.0 ≡ a.0 = ok_is (rendering_of f.0 g.0 k.0) a.0 k.2 in
      let stands : Stands s as_video g.0 = named_stands s as_video surface g.0 (further-Ok 1 f.0.device (named s as_video surface) g.0 g.1).0 in
      subst (λ (r : Rendering). Stands s as_video r.target) (whole ∙ same) stands
