-- What the looks of a render at its handles come to.
use Rattle.std.proofs.Common.{◌≡◌, ℕ, List, length, slice_get, Option, Some, Ok, Err, sym, ap, ◌∙◌, subst, arith}
use Rattle.cb_types.specs.SizeMbs.{IsWithinLimits}
use Rattle.cb_types.specs.declared.picture_info.Reference.{Reference}
use Rattle.vd_status.specs.declared.refusal.Refusal.{Refusal}
use Rattle.driver_model.specs.Objects as model
use Rattle.driver_model.specs.Refusals.{Looked, ◌>>=◌, further_handle}
use Rattle.driver_model.specs.Renders as renders
use Rattle.driver_model.specs.Renders.{references, rendering}
use Rattle.driver_model.specs.States.{Found, State, named}
use Rattle.driver_objects.specs.Contents.{HasContent}
use Rattle.driver_objects.specs.Kept.{kept_of}
use Rattle.driver_objects.specs.declared.content.Content.TheVariants as content
use Rattle.driver_objects.specs.declared.content.Decoder.{Decoder}
use Rattle.driver_objects.specs.declared.object.Object.{Object}
use Rattle.driver_objects.proofs.Lists.{one_kept}
use Rattle.driver_core.specs.Found.{FindsAt}
use Rattle.driver_core.specs.Rendered.{IsSeen, RefusesEntries, RefusesLook, RefusesSurface, Sees, SeesEntries, SeesSurface, decoder_of}
use Rattle.driver_core.specs.Stands.{Stands}
use Rattle.driver_core.specs.declared.driver.Core.{Core}
use Rattle.driver_core.proofs.SeenSurfaces.{all_seen}

module _ (core : Core) (handle surface index : ℕ) (entries : List Reference) (finds : FindsAt model.as_decoder (λ of. model.DecoderObject of) core 0 handle index) where
  module _ (d : State) where
    with_all : Found model.Decoder → Found model.VideoSurface → List (Option (Found model.VideoSurface)) → Looked renders.Rendering
    with_all m v fs = Ok (record { decoder = m; target = v; references = fs })

    behind_target : Found model.Decoder → Found model.VideoSurface → Looked renders.Rendering
    behind_target m v = references d m.device 2 entries >>= with_all m v

    behind_decoder : Found model.Decoder → Looked renders.Rendering
    behind_decoder m = further_handle 1 m.device (named d model.as_video surface) >>= behind_target m

  module _ (object : Object) (there : slice_get (kept_of core.objects) index ≡ Some object) where
    -- the decoder that is found, on the device of the kept one
    record Decoded (d : State) (what : Decoder) : Type 0 where
      found : Found model.Decoder
      device : object.device ≡ found.device
      value : found.value ≡ decoder_of what
      behind : rendering d handle surface entries ≡ behind_decoder d found

    module _ (d : State) (stands : Stands core d) (what : Decoder) (has : HasContent (kept_of core.objects) index (content.Decoder what)) where
      decoded : Decoded d what
      unfolding with_all behind_target behind_decoder
      decoded =
          let f = finds (content.Decoder what) has d stands in
          let m : Found model.Decoder = record { place = f.object.place; device = f.object.device; value = f.value } in
          record {
            found = m;
            device = ap (λ (o : Object). o.device) (one_kept (kept_of core.objects) index object f.object there f.there);
            value = λ i. record { profile = sym f.is.0 i; size = sym f.is.1 i; max_references = sym f.is.2 i };
            behind = ap (λ l. l >>= behind_decoder d) f.looks;
          }

    module _ (what : Decoder) (has : HasContent (kept_of core.objects) index (content.Decoder what)) where
      pub target_refused : (refusal : Refusal) → RefusesSurface core 1 surface object.device refusal → RefusesLook core (λ d. rendering d handle surface entries) refusal
      unfolding behind_decoder
      target_refused refusal refused d stands =
          let m = decoded d stands what has in
          m.behind ∙ ap (λ l. l >>= behind_target d m.found) (subst (λ on. further_handle 1 on (named d model.as_video surface) ≡ Err refusal) m.device (refused d stands))

      module _ (target : ℕ) (sees : SeesSurface core 1 surface object.device target) where
        -- what is behind the target that is found
        record Targeted (d : State) (m : Found model.Decoder) : Type 0 where
          found : Found model.VideoSurface
          seen : IsSeen core d target found
          behind : behind_decoder d m ≡ behind_target d m found

        targeted : (d : State) (stands : Stands core d) (m : Found model.Decoder) → object.device ≡ m.device → Targeted d m
        unfolding behind_decoder
        targeted d stands m device =
            let s = sees d stands in
            record { found = s.0; seen = s.2; behind = ap (λ l. l >>= behind_target d m) (subst (λ on. further_handle 1 on (named d model.as_video surface) ≡ Ok s.0) device s.1) }

        pub entries_refused : (refusal : Refusal) → RefusesEntries core object.device entries refusal → RefusesLook core (λ d. rendering d handle surface entries) refusal
        unfolding behind_target
        entries_refused refusal refused d stands =
            let m = decoded d stands what has in
            let v = targeted d stands m.found m.device in
            m.behind ∙ (v.behind ∙ ap (λ l. l >>= with_all d m.found v.found) (subst (λ on. references d on 2 entries ≡ Err refusal) m.device (refused d stands)))

        pub rendering_seen : (slots : List (Option ℕ)) → length entries ≡ 16 → length slots ≡ 16 → SeesEntries core object.device entries 16 slots
            → Sees core (λ d. rendering d handle surface entries) (record { decoder = what; target = target; references = slots })
        unfolding with_all behind_target
        rendering_seen slots sixteen count each d stands =
            let m = decoded d stands what has in
            let v = targeted d stands m.found m.device in
            let r = all_seen core object.device d stands 2 entries slots (omega (arith, sixteen, count)) (λ place lt. each place (omega (arith, sixteen, lt))) in (
              record { decoder = m.found; target = v.found; references = r.0 },
              m.behind ∙ (v.behind ∙ ap (λ l. l >>= with_all d m.found v.found) (subst (λ on. references d on 2 entries ≡ Ok r.0) m.device r.1)),
              record { decoder = m.value; target = v.seen; references = r.2 },
            )

-- a decoder's size is within the limits
pub decoder_within : (core : Core) (index : ℕ) (what : Decoder) → HasContent (kept_of core.objects) index (content.Decoder what) → IsWithinLimits what.size
decoder_within core index what has = (core.sound.decoders index has.object what has.there has.has).0
