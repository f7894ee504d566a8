-- What handles of each kind find.
use Rattle.std.proofs.Common.{◌≡◌, ℕ, Bool, true, slice_get, Option, Some, None, Result, Ok, Err, IfOk, IfErr, refl, subst, ap, ◌<◌, length, arith}
use Rattle.std.specs.List.{list_any}
use Rattle.vd_status.specs.declared.refusal.Refusal.{Refusal}
use Rattle.driver_model.specs.Objects as model
use Rattle.driver_model.specs.declared.numbers.TheConstants as number
use Rattle.driver_objects.specs.Contents.{HasContent}
use Rattle.driver_objects.specs.Kept.{kept_of}
use Rattle.driver_objects.specs.Kinds.{is_decoder, is_device_at, is_mixer, is_output, is_video, kind_number}
use Rattle.driver_objects.specs.declared.content.Content.{Content}
use Rattle.driver_objects.specs.declared.content.Content.TheVariants as content
use Rattle.driver_objects.specs.declared.object.Object.{Object}
use Rattle.driver_objects.proofs.Lists.{one_kept}
use Rattle.driver_core.specs.Found.{FindsAt, IsOn, Refuses}
use Rattle.driver_core.specs.Looked.{IsInUse}
use Rattle.driver_core.specs.Roles.{IsLiveAt}
use Rattle.driver_core.specs.declared.driver.Core.{Core}
use Rattle.driver_core.proofs.Handles.{called_kind, called_within, device_by_kind, found_err, found_ok}
use Rattle.driver_core.proofs.ModelKinds.{decoder_is, decoder_kind, decoder_other, device_is, device_kind, device_other, mixer_is, mixer_kind, mixer_other, output_is, output_kind, output_other, video_is, video_kind, video_other}

-- ---- a handle of a known kind

-- what a look by a kind comes to
pub record Looks {T : Type 0} (as_kind : model.Content → Option T) (of : T → model.Content) (is_kind : Content → Bool) (core : Core) (arg name : ℕ) (result : Result ℕ Refusal) : Type 0 where
  pub live : IfOk result (IsLiveAt is_kind (kept_of core.objects))
  pub finds : IfOk result (FindsAt as_kind of core arg name)
  pub refuses : IfErr result (Refuses as_kind of core arg name)

module _ {T : Type 0} (as_kind : model.Content → Option T) (of : T → model.Content) (kind : ℕ)
    (of_kind : (content : model.Content) → model.kind_number content ≡ kind → (value : T) × (as_kind content ≡ Some value))
    (of_other : (content : model.Content) → (model.kind_number content ≡ kind → ⊥) → as_kind content ≡ None)
    (is_of : (content : model.Content) (value : T) → as_kind content ≡ Some value → content ≡ of value)
    (is_kind : Content → Bool) (by_number : (what : Content) → kind_number what ≡ kind → is_kind what ≡ true)
    (core : Core) (arg name : ℕ) where
  looked_live : (index : ℕ) → IsInUse (kept_of core.objects) arg kind name (Ok index) → IsLiveAt is_kind (kept_of core.objects) index
  looked_live index is =
      let passes = is.0.0.passes in
      let object = is.0.0.object in
      let there = is.0.0.stands in
      record { object = object; there = there; live = grind (arith, passes); of_kind = by_number object.content (called_kind core kind name index is.0 object.content (record { object = object; there = there; has = refl })) }

  looks : (result : Result ℕ Refusal) → IsInUse (kept_of core.objects) arg kind name result → Looks as_kind of is_kind core arg name result
  looks (Ok index) is = record { live = looked_live index is; finds = λ what has. found_ok as_kind of kind of_kind of_other is_of core arg name index what is has; refuses = tt }
  looks (Err refusal) is = record { live = tt; finds = tt; refuses = found_err as_kind of kind of_kind of_other is_of core arg name refusal is }

video_by_kind : (what : Content) → kind_number what ≡ number.VIDEO_SURFACE → is_video what ≡ true
video_by_kind (content.Device of) is = absurd (omega (arith, is))
video_by_kind (content.Video of) is = refl
video_by_kind (content.Output of) is = absurd (omega (arith, is))
video_by_kind (content.Decoder of) is = absurd (omega (arith, is))
video_by_kind (content.Mixer of) is = absurd (omega (arith, is))
video_by_kind (content.Queue of) is = absurd (omega (arith, is))

output_by_kind : (what : Content) → kind_number what ≡ number.OUTPUT_SURFACE → is_output what ≡ true
output_by_kind (content.Device of) is = absurd (omega (arith, is))
output_by_kind (content.Video of) is = absurd (omega (arith, is))
output_by_kind (content.Output of) is = refl
output_by_kind (content.Decoder of) is = absurd (omega (arith, is))
output_by_kind (content.Mixer of) is = absurd (omega (arith, is))
output_by_kind (content.Queue of) is = absurd (omega (arith, is))

decoder_by_kind : (what : Content) → kind_number what ≡ number.DECODER → is_decoder what ≡ true
decoder_by_kind (content.Device of) is = absurd (omega (arith, is))
decoder_by_kind (content.Video of) is = absurd (omega (arith, is))
decoder_by_kind (content.Output of) is = absurd (omega (arith, is))
decoder_by_kind (content.Decoder of) is = refl
decoder_by_kind (content.Mixer of) is = absurd (omega (arith, is))
decoder_by_kind (content.Queue of) is = absurd (omega (arith, is))

mixer_by_kind : (what : Content) → kind_number what ≡ number.VIDEO_MIXER → is_mixer what ≡ true
mixer_by_kind (content.Device of) is = absurd (omega (arith, is))
mixer_by_kind (content.Video of) is = absurd (omega (arith, is))
mixer_by_kind (content.Output of) is = absurd (omega (arith, is))
mixer_by_kind (content.Decoder of) is = absurd (omega (arith, is))
mixer_by_kind (content.Mixer of) is = refl
mixer_by_kind (content.Queue of) is = absurd (omega (arith, is))

module _ (core : Core) (arg name : ℕ) (result : Result ℕ Refusal) where
  pub video_looks : IsInUse (kept_of core.objects) arg number.VIDEO_SURFACE name result → Looks model.as_video (λ of. model.VideoObject of) is_video core arg name result
  video_looks is = looks model.as_video (λ of. model.VideoObject of) number.VIDEO_SURFACE video_kind video_other video_is is_video video_by_kind core arg name result is

  pub decoder_looks : IsInUse (kept_of core.objects) arg number.DECODER name result → Looks model.as_decoder (λ of. model.DecoderObject of) is_decoder core arg name result
  decoder_looks is = looks model.as_decoder (λ of. model.DecoderObject of) number.DECODER decoder_kind decoder_other decoder_is is_decoder decoder_by_kind core arg name result is

  pub output_looks : IsInUse (kept_of core.objects) arg number.OUTPUT_SURFACE name result → Looks model.as_output (λ of. model.OutputObject of) is_output core arg name result
  output_looks is = looks model.as_output (λ of. model.OutputObject of) number.OUTPUT_SURFACE output_kind output_other output_is is_output output_by_kind core arg name result is

  pub mixer_looks : IsInUse (kept_of core.objects) arg number.VIDEO_MIXER name result → Looks model.as_mixer (λ of. model.MixerObject of) is_mixer core arg name result
  mixer_looks is = looks model.as_mixer (λ of. model.MixerObject of) number.VIDEO_MIXER mixer_kind mixer_other mixer_is is_mixer mixer_by_kind core arg name result is

-- ---- the device of a create

module _ (core : Core) (name : ℕ) where
  module _ (index : ℕ) (is : IsInUse (kept_of core.objects) 0 number.DEVICE name (Ok index)) where
    abbrev found : Object
    found = is.0.0.object

    pub on_within : index < length (kept_of core.objects)
    on_within = called_within core number.DEVICE name index is.0

    -- the device is the live one of its own place
    pub on_live : (object : Object) → slice_get (kept_of core.objects) index ≡ Some object → list_any (is_device_at object.place) (kept_of core.objects) ≡ true
    on_live object there =
        let same : found ≡ object = one_kept (kept_of core.objects) index found object is.0.0.stands there in
        let live : object.is_live ≡ true = let passes = is.0.0.passes in subst (λ (o : Object). o.is_live ≡ true) same (grind (arith, passes)) in
        let kind = called_kind core number.DEVICE name index is.0 object.content (record { object = object; there = there; has = refl }) in
        let own : object.device ≡ object.place = core.sound.own index object there (device_by_kind object.content kind) in
        subst (λ place. list_any (is_device_at place) (kept_of core.objects) ≡ true) own (core.sound.devices index object there live)

    pub on_found : (object : Object) → slice_get (kept_of core.objects) index ≡ Some object → IsOn core name object.place
    on_found object there d stands =
        let has : HasContent (kept_of core.objects) index object.content = record { object = object; there = there; has = refl } in
        let f = found_ok model.as_device (λ of. model.DeviceObject of) number.DEVICE device_kind device_other device_is core 0 name index object.content is has d stands in
        (_, f.looks, ap (λ (o : Object). o.place) (one_kept (kept_of core.objects) index f.object object f.there there))

  pub on_refused : (refusal : Refusal) → IsInUse (kept_of core.objects) 0 number.DEVICE name (Err refusal) → Refuses model.as_device (λ of. model.DeviceObject of) core 0 name refusal
  on_refused refusal is = found_err model.as_device (λ of. model.DeviceObject of) number.DEVICE device_kind device_other device_is core 0 name refusal is
