-- An object is of one kind.
use Rattle.std.proofs.Common.{◌≡◌, Bool, true, false, Option, Some, None, IsSome, refl}
use Rattle.driver_model.specs.Objects.{Content, DeviceObject, VideoObject, OutputObject, DecoderObject, MixerObject, QueueObject, Device, VideoSurface, OutputSurface, Decoder, VideoMixer, PresentationQueue, as_decoder, as_device, as_mixer, as_output, as_queue, as_video}

no_value : {T : Type 0} (value : T) → (let o : Option T = None in o ≡ Some value) → ⊥
no_value {T} value e = let k : (let o : Option T = None in o ≡ Some value) = e in absurd cc

-- what is of another kind is no queue and no output surface
pub record IsPlain (content : Content) : Type 0 where
  pub no_queue : as_queue content ≡ None
  pub no_output : IsSome (as_output content) → ⊥

not_some : (let b : Bool = false in b ≡ true) → ⊥
not_some e = let k : (let b : Bool = false in b ≡ true) = e in absurd cc

pub device_is_plain : (content : Content) (device : Device) → as_device content ≡ Some device → IsPlain content
device_is_plain (DeviceObject of) device e = record { no_queue = refl; no_output = not_some }
device_is_plain (VideoObject of) device e = absurd (no_value device e)
device_is_plain (OutputObject of) device e = absurd (no_value device e)
device_is_plain (DecoderObject of) device e = absurd (no_value device e)
device_is_plain (MixerObject of) device e = absurd (no_value device e)
device_is_plain (QueueObject of) device e = absurd (no_value device e)

pub video_is_plain : (content : Content) (surface : VideoSurface) → as_video content ≡ Some surface → IsPlain content
video_is_plain (DeviceObject of) surface e = absurd (no_value surface e)
video_is_plain (VideoObject of) surface e = record { no_queue = refl; no_output = not_some }
video_is_plain (OutputObject of) surface e = absurd (no_value surface e)
video_is_plain (DecoderObject of) surface e = absurd (no_value surface e)
video_is_plain (MixerObject of) surface e = absurd (no_value surface e)
video_is_plain (QueueObject of) surface e = absurd (no_value surface e)

pub decoder_is_plain : (content : Content) (decoder : Decoder) → as_decoder content ≡ Some decoder → IsPlain content
decoder_is_plain (DeviceObject of) decoder e = absurd (no_value decoder e)
decoder_is_plain (VideoObject of) decoder e = absurd (no_value decoder e)
decoder_is_plain (OutputObject of) decoder e = absurd (no_value decoder e)
decoder_is_plain (DecoderObject of) decoder e = record { no_queue = refl; no_output = not_some }
decoder_is_plain (MixerObject of) decoder e = absurd (no_value decoder e)
decoder_is_plain (QueueObject of) decoder e = absurd (no_value decoder e)

pub mixer_is_plain : (content : Content) (mixer : VideoMixer) → as_mixer content ≡ Some mixer → IsPlain content
mixer_is_plain (DeviceObject of) mixer e = absurd (no_value mixer e)
mixer_is_plain (VideoObject of) mixer e = absurd (no_value mixer e)
mixer_is_plain (OutputObject of) mixer e = absurd (no_value mixer e)
mixer_is_plain (DecoderObject of) mixer e = absurd (no_value mixer e)
mixer_is_plain (MixerObject of) mixer e = record { no_queue = refl; no_output = not_some }
mixer_is_plain (QueueObject of) mixer e = absurd (no_value mixer e)

pub output_is_no_queue : (content : Content) (surface : OutputSurface) → as_output content ≡ Some surface → as_queue content ≡ None
output_is_no_queue (DeviceObject of) surface e = absurd (no_value surface e)
output_is_no_queue (VideoObject of) surface e = absurd (no_value surface e)
output_is_no_queue (OutputObject of) surface e = refl
output_is_no_queue (DecoderObject of) surface e = absurd (no_value surface e)
output_is_no_queue (MixerObject of) surface e = absurd (no_value surface e)
output_is_no_queue (QueueObject of) surface e = absurd (no_value surface e)

pub queue_is_no_output : (content : Content) (queue : PresentationQueue) → as_queue content ≡ Some queue → IsSome (as_output content) → ⊥
queue_is_no_output (DeviceObject of) queue e = absurd (no_value queue e)
queue_is_no_output (VideoObject of) queue e = absurd (no_value queue e)
queue_is_no_output (OutputObject of) queue e = absurd (no_value queue e)
queue_is_no_output (DecoderObject of) queue e = absurd (no_value queue e)
queue_is_no_output (MixerObject of) queue e = absurd (no_value queue e)
queue_is_no_output (QueueObject of) queue e = not_some
