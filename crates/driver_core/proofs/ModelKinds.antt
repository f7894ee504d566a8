-- What objects of each kind have, by the number of their kind.
use Rattle.std.proofs.Common.{◌≡◌, Option, Some, None, unwrap_or, refl, ap, arith}
use Rattle.std.proofs.lemmas.Option.{none-some}
use Rattle.driver_model.specs.Objects as model
use Rattle.driver_model.specs.declared.numbers.TheConstants as number

-- Device
pub device_kind : (content : model.Content) → model.kind_number content ≡ number.DEVICE → (value : model.Device) × (model.as_device content ≡ Some value)
device_kind (model.DeviceObject of) is = (of, refl)
device_kind (model.VideoObject of) is = absurd (omega (arith, is))
device_kind (model.OutputObject of) is = absurd (omega (arith, is))
device_kind (model.DecoderObject of) is = absurd (omega (arith, is))
device_kind (model.MixerObject of) is = absurd (omega (arith, is))
device_kind (model.QueueObject of) is = absurd (omega (arith, is))

pub device_other : (content : model.Content) → (model.kind_number content ≡ number.DEVICE → ⊥) → model.as_device content ≡ None
device_other (model.DeviceObject of) not = absurd (not refl)
device_other (model.VideoObject of) not = refl
device_other (model.OutputObject of) not = refl
device_other (model.DecoderObject of) not = refl
device_other (model.MixerObject of) not = refl
device_other (model.QueueObject of) not = refl

pub device_is : (content : model.Content) (value : model.Device) → model.as_device content ≡ Some value → content ≡ model.DeviceObject value
device_is (model.DeviceObject of) value is = ap (λ (o : Option model.Device). model.DeviceObject (unwrap_or o of)) is
device_is (model.VideoObject of) value is = absurd (none-some value is)
device_is (model.OutputObject of) value is = absurd (none-some value is)
device_is (model.DecoderObject of) value is = absurd (none-some value is)
device_is (model.MixerObject of) value is = absurd (none-some value is)
device_is (model.QueueObject of) value is = absurd (none-some value is)

-- VideoSurface
pub video_kind : (content : model.Content) → model.kind_number content ≡ number.VIDEO_SURFACE → (value : model.VideoSurface) × (model.as_video content ≡ Some value)
video_kind (model.DeviceObject of) is = absurd (omega (arith, is))
video_kind (model.VideoObject of) is = (of, refl)
video_kind (model.OutputObject of) is = absurd (omega (arith, is))
video_kind (model.DecoderObject of) is = absurd (omega (arith, is))
video_kind (model.MixerObject of) is = absurd (omega (arith, is))
video_kind (model.QueueObject of) is = absurd (omega (arith, is))

pub video_other : (content : model.Content) → (model.kind_number content ≡ number.VIDEO_SURFACE → ⊥) → model.as_video content ≡ None
video_other (model.DeviceObject of) not = refl
video_other (model.VideoObject of) not = absurd (not refl)
video_other (model.OutputObject of) not = refl
video_other (model.DecoderObject of) not = refl
video_other (model.MixerObject of) not = refl
video_other (model.QueueObject of) not = refl

pub video_is : (content : model.Content) (value : model.VideoSurface) → model.as_video content ≡ Some value → content ≡ model.VideoObject value
video_is (model.DeviceObject of) value is = absurd (none-some value is)
video_is (model.VideoObject of) value is = ap (λ (o : Option model.VideoSurface). model.VideoObject (unwrap_or o of)) is
video_is (model.OutputObject of) value is = absurd (none-some value is)
video_is (model.DecoderObject of) value is = absurd (none-some value is)
video_is (model.MixerObject of) value is = absurd (none-some value is)
video_is (model.QueueObject of) value is = absurd (none-some value is)

-- OutputSurface
pub output_kind : (content : model.Content) → model.kind_number content ≡ number.OUTPUT_SURFACE → (value : model.OutputSurface) × (model.as_output content ≡ Some value)
output_kind (model.DeviceObject of) is = absurd (omega (arith, is))
output_kind (model.VideoObject of) is = absurd (omega (arith, is))
output_kind (model.OutputObject of) is = (of, refl)
output_kind (model.DecoderObject of) is = absurd (omega (arith, is))
output_kind (model.MixerObject of) is = absurd (omega (arith, is))
output_kind (model.QueueObject of) is = absurd (omega (arith, is))

pub output_other : (content : model.Content) → (model.kind_number content ≡ number.OUTPUT_SURFACE → ⊥) → model.as_output content ≡ None
output_other (model.DeviceObject of) not = refl
output_other (model.VideoObject of) not = refl
output_other (model.OutputObject of) not = absurd (not refl)
output_other (model.DecoderObject of) not = refl
output_other (model.MixerObject of) not = refl
output_other (model.QueueObject of) not = refl

pub output_is : (content : model.Content) (value : model.OutputSurface) → model.as_output content ≡ Some value → content ≡ model.OutputObject value
output_is (model.DeviceObject of) value is = absurd (none-some value is)
output_is (model.VideoObject of) value is = absurd (none-some value is)
output_is (model.OutputObject of) value is = ap (λ (o : Option model.OutputSurface). model.OutputObject (unwrap_or o of)) is
output_is (model.DecoderObject of) value is = absurd (none-some value is)
output_is (model.MixerObject of) value is = absurd (none-some value is)
output_is (model.QueueObject of) value is = absurd (none-some value is)

-- Decoder
pub decoder_kind : (content : model.Content) → model.kind_number content ≡ number.DECODER → (value : model.Decoder) × (model.as_decoder content ≡ Some value)
decoder_kind (model.DeviceObject of) is = absurd (omega (arith, is))
decoder_kind (model.VideoObject of) is = absurd (omega (arith, is))
decoder_kind (model.OutputObject of) is = absurd (omega (arith, is))
decoder_kind (model.DecoderObject of) is = (of, refl)
decoder_kind (model.MixerObject of) is = absurd (omega (arith, is))
decoder_kind (model.QueueObject of) is = absurd (omega (arith, is))

pub decoder_other : (content : model.Content) → (model.kind_number content ≡ number.DECODER → ⊥) → model.as_decoder content ≡ None
decoder_other (model.DeviceObject of) not = refl
decoder_other (model.VideoObject of) not = refl
decoder_other (model.OutputObject of) not = refl
decoder_other (model.DecoderObject of) not = absurd (not refl)
decoder_other (model.MixerObject of) not = refl
decoder_other (model.QueueObject of) not = refl

pub decoder_is : (content : model.Content) (value : model.Decoder) → model.as_decoder content ≡ Some value → content ≡ model.DecoderObject value
decoder_is (model.DeviceObject of) value is = absurd (none-some value is)
decoder_is (model.VideoObject of) value is = absurd (none-some value is)
decoder_is (model.OutputObject of) value is = absurd (none-some value is)
decoder_is (model.DecoderObject of) value is = ap (λ (o : Option model.Decoder). model.DecoderObject (unwrap_or o of)) is
decoder_is (model.MixerObject of) value is = absurd (none-some value is)
decoder_is (model.QueueObject of) value is = absurd (none-some value is)

-- VideoMixer
pub mixer_kind : (content : model.Content) → model.kind_number content ≡ number.VIDEO_MIXER → (value : model.VideoMixer) × (model.as_mixer content ≡ Some value)
mixer_kind (model.DeviceObject of) is = absurd (omega (arith, is))
mixer_kind (model.VideoObject of) is = absurd (omega (arith, is))
mixer_kind (model.OutputObject of) is = absurd (omega (arith, is))
mixer_kind (model.DecoderObject of) is = absurd (omega (arith, is))
mixer_kind (model.MixerObject of) is = (of, refl)
mixer_kind (model.QueueObject of) is = absurd (omega (arith, is))

pub mixer_other : (content : model.Content) → (model.kind_number content ≡ number.VIDEO_MIXER → ⊥) → model.as_mixer content ≡ None
mixer_other (model.DeviceObject of) not = refl
mixer_other (model.VideoObject of) not = refl
mixer_other (model.OutputObject of) not = refl
mixer_other (model.DecoderObject of) not = refl
mixer_other (model.MixerObject of) not = absurd (not refl)
mixer_other (model.QueueObject of) not = refl

pub mixer_is : (content : model.Content) (value : model.VideoMixer) → model.as_mixer content ≡ Some value → content ≡ model.MixerObject value
mixer_is (model.DeviceObject of) value is = absurd (none-some value is)
mixer_is (model.VideoObject of) value is = absurd (none-some value is)
mixer_is (model.OutputObject of) value is = absurd (none-some value is)
mixer_is (model.DecoderObject of) value is = absurd (none-some value is)
mixer_is (model.MixerObject of) value is = ap (λ (o : Option model.VideoMixer). model.MixerObject (unwrap_or o of)) is
mixer_is (model.QueueObject of) value is = absurd (none-some value is)

-- PresentationQueue
pub queue_kind : (content : model.Content) → model.kind_number content ≡ number.PRESENTATION_QUEUE → (value : model.PresentationQueue) × (model.as_queue content ≡ Some value)
queue_kind (model.DeviceObject of) is = absurd (omega (arith, is))
queue_kind (model.VideoObject of) is = absurd (omega (arith, is))
queue_kind (model.OutputObject of) is = absurd (omega (arith, is))
queue_kind (model.DecoderObject of) is = absurd (omega (arith, is))
queue_kind (model.MixerObject of) is = absurd (omega (arith, is))
queue_kind (model.QueueObject of) is = (of, refl)

pub queue_other : (content : model.Content) → (model.kind_number content ≡ number.PRESENTATION_QUEUE → ⊥) → model.as_queue content ≡ None
queue_other (model.DeviceObject of) not = refl
queue_other (model.VideoObject of) not = refl
queue_other (model.OutputObject of) not = refl
queue_other (model.DecoderObject of) not = refl
queue_other (model.MixerObject of) not = refl
queue_other (model.QueueObject of) not = absurd (not refl)

pub queue_is : (content : model.Content) (value : model.PresentationQueue) → model.as_queue content ≡ Some value → content ≡ model.QueueObject value
queue_is (model.DeviceObject of) value is = absurd (none-some value is)
queue_is (model.VideoObject of) value is = absurd (none-some value is)
queue_is (model.OutputObject of) value is = absurd (none-some value is)
queue_is (model.DecoderObject of) value is = absurd (none-some value is)
queue_is (model.MixerObject of) value is = absurd (none-some value is)
queue_is (model.QueueObject of) value is = ap (λ (o : Option model.PresentationQueue). model.QueueObject (unwrap_or o of)) is
