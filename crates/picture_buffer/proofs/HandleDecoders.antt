-- The decoder and the device by themselves: what keeps them.
use Rattle.std.proofs.Common.{◌≡◌, ◌≢◌, ℕ, slice_get, Some, ap, sym, ◌∙◌}
use Rattle.std.specs.Option.{option_and_then}
use Rattle.driver_model.specs.Objects.{Decoder, Device, Object, VideoSurface, as_decoder, as_device, as_video}
use Rattle.driver_model.specs.States.{Found, State, content_at, found_from, named}
use Rattle.driver_model.specs.declared.calls.Call.{Call}
use Rattle.driver_model.specs.declared.calls.Call.TheVariants as call
use Rattle.driver_model.specs.declared.items.Item.TheVariants.{Called, Ended}
use Rattle.driver_model.proofs.Named.{named-Some}
use Rattle.driver_model.proofs.NoteLists.{some_is}
use Rattle.picture_buffer.specs.Handles.{ItemsLeaveAwake, ItemsLeaveDecoders, LeavesAwake, LeavesDecoder}
use Rattle.picture_buffer.proofs.HandleKept.{decoder_device, decoder_plain, device_still, elsewhere, found_content, found_still, kinds_apart, no_device, video_decoder, video_device}
use Rattle.picture_buffer.proofs.HandleSteps.{LeavesPlace}

-- ---- the decoder

module _ (s : State) (name : ℕ) (decoder : Found Decoder) (there : named s as_decoder name ≡ Some decoder) where
  not_on : (on : Found Device) → on.place ≢ decoder.device → (one : Object) → slice_get s.objects decoder.place ≡ Some one → one.device ≢ on.place
  not_on on differs one at same =
      let is = named-Some as_decoder name s decoder there in
      let here : is.0 ≡ one = some_is is.0 one (sym is.1 ∙ at) in
      differs (sym same ∙ (ap (λ (o : Object). o.device) (sym here) ∙ sym is.2.of_device))

  no_video : (other : ℕ) (on : Found VideoSurface) → named s as_video other ≡ Some on → on.place ≢ decoder.place
  no_video other on found = kinds_apart as_video as_decoder video_decoder s on.place decoder.place on.value decoder.value (found_content as_video s other on found) (found_content as_decoder s name decoder there)

  leaves_place : (asked : Call) → LeavesDecoder s name decoder.device asked → LeavesPlace s decoder.place asked
  leaves_place (call.DeviceDestroy other) leaves = λ on found one at none. not_on on (leaves on found) one at
  leaves_place (call.Preempt other) leaves = λ on found same.
      kinds_apart as_decoder as_device decoder_device s decoder.place on.place decoder.value on.value (found_content as_decoder s name decoder there) (found_content as_device s other on found) (sym same)
  leaves_place (call.DecoderDestroy other) leaves = λ on found. elsewhere as_decoder as_decoder s name other decoder on there found leaves
  leaves_place (call.VideoPutBits other format bytes) leaves = λ on found. no_video other on found
  leaves_place (call.VideoDestroy other) leaves = λ on found. no_video other on found
  leaves_place (call.Render by other info bytes) leaves = λ on found. no_video other on found
  leaves_place asked leaves = tt

pub items_leave_decoders : ItemsLeaveDecoders
items_leave_decoders history name decoder old new (Called entry) leads there leaves happens =
    ap (λ (s : State). found_from as_decoder name 0 s.objects) happens.2
    ∙ found_still history old happens.0 entry.caller entry.call entry.reply leads happens.1 as_decoder decoder_plain name decoder (leaves_place old name decoder there entry.call leaves) there
items_leave_decoders history name decoder old new (Ended mark) leads there leaves happens = ap (λ (s : State). found_from as_decoder name 0 s.objects) happens.1 ∙ there

-- ---- the device

module _ (s : State) (device : ℕ) (root : Device) (stands : content_at s as_device device ≡ Some root) where
  device_place : (asked : Call) → LeavesAwake s device asked → LeavesPlace s device asked
  device_place (call.DeviceDestroy other) leaves = λ on found one at none. absurd (no_device one.content root none (ap (option_and_then (λ (object : Object). as_device object.content)) (sym at) ∙ stands))
  device_place (call.Preempt other) leaves = λ on found. leaves on found
  device_place (call.DecoderDestroy other) leaves = λ on found. kinds_apart as_decoder as_device decoder_device s on.place device on.value root (found_content as_decoder s other on found) stands
  device_place (call.VideoPutBits other format bytes) leaves = λ on found. kinds_apart as_video as_device video_device s on.place device on.value root (found_content as_video s other on found) stands
  device_place (call.VideoDestroy other) leaves = λ on found. kinds_apart as_video as_device video_device s on.place device on.value root (found_content as_video s other on found) stands
  device_place (call.Render by other info bytes) leaves = λ on found. kinds_apart as_video as_device video_device s on.place device on.value root (found_content as_video s other on found) stands
  device_place asked leaves = tt

pub items_leave_awake : ItemsLeaveAwake
items_leave_awake history device root old new (Called entry) leads stands awake leaves happens =
    let r = device_still history old happens.0 entry.caller entry.call entry.reply leads happens.1 device root (device_place old device root stands entry.call leaves) stands awake in
    (r.0, ap (λ (s : State). content_at s as_device device) happens.2 ∙ r.1, r.2)
items_leave_awake history device root old new (Ended mark) leads stands awake leaves happens = (root, ap (λ (s : State). content_at s as_device device) happens.1 ∙ stands, awake)
