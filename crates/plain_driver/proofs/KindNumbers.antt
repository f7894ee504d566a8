-- An object is of a kind exactly where it has that kind's number.
use Rattle.std.proofs.Common.{◌≡◌, ℕ, ◌==◌, Option, refl}
use Rattle.std.specs.Option.{is_some}
use Rattle.driver_model.specs.Objects.{Content, DeviceObject, VideoObject, OutputObject, DecoderObject, MixerObject, QueueObject, as_decoder, as_device, as_mixer, as_output, as_queue, as_video, kind_number}
use Rattle.driver_model.specs.declared.numbers.TheConstants as number

abbrev pub IsKind : {T : Type 0} → (Content → Option T) → ℕ → Type 0
IsKind as_kind kind = (content : Content) → (kind_number content == kind) ≡ is_some (as_kind content)

pub device_kind : IsKind as_device number.DEVICE
device_kind (DeviceObject of) = refl
device_kind (VideoObject of) = refl
device_kind (OutputObject of) = refl
device_kind (DecoderObject of) = refl
device_kind (MixerObject of) = refl
device_kind (QueueObject of) = refl

pub video_kind : IsKind as_video number.VIDEO_SURFACE
video_kind (DeviceObject of) = refl
video_kind (VideoObject of) = refl
video_kind (OutputObject of) = refl
video_kind (DecoderObject of) = refl
video_kind (MixerObject of) = refl
video_kind (QueueObject of) = refl

pub output_kind : IsKind as_output number.OUTPUT_SURFACE
output_kind (DeviceObject of) = refl
output_kind (VideoObject of) = refl
output_kind (OutputObject of) = refl
output_kind (DecoderObject of) = refl
output_kind (MixerObject of) = refl
output_kind (QueueObject of) = refl

pub decoder_kind : IsKind as_decoder number.DECODER
decoder_kind (DeviceObject of) = refl
decoder_kind (VideoObject of) = refl
decoder_kind (OutputObject of) = refl
decoder_kind (DecoderObject of) = refl
decoder_kind (MixerObject of) = refl
decoder_kind (QueueObject of) = refl

pub mixer_kind : IsKind as_mixer number.VIDEO_MIXER
mixer_kind (DeviceObject of) = refl
mixer_kind (VideoObject of) = refl
mixer_kind (OutputObject of) = refl
mixer_kind (DecoderObject of) = refl
mixer_kind (MixerObject of) = refl
mixer_kind (QueueObject of) = refl

pub queue_kind : IsKind as_queue number.PRESENTATION_QUEUE
queue_kind (DeviceObject of) = refl
queue_kind (VideoObject of) = refl
queue_kind (OutputObject of) = refl
queue_kind (DecoderObject of) = refl
queue_kind (MixerObject of) = refl
queue_kind (QueueObject of) = refl
