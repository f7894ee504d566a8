-- An object that a call has found, and that has a size, has one within the limits.
use Rattle.std.proofs.Common.{◌≡◌, ℕ, zero, suc, List, [], ◌∷◌, slice_get, Option, Some, None, subst}
use Rattle.cb_types.specs.SizeMbs.{IsWithinLimits}
use Rattle.driver_model.specs.Laws.{HasSize, HasSizes}
use Rattle.driver_model.specs.Objects.{Content, DeviceObject, VideoObject, OutputObject, DecoderObject, MixerObject, QueueObject, OutputSurface, VideoMixer, VideoSurface, Object, as_mixer, as_output, as_video}
use Rattle.driver_model.specs.States.{State, Found}
use Rattle.driver_model.proofs.Changes.{Sizes}
use Rattle.driver_model.proofs.Named.{object_is}
use Rattle.driver_model.proofs.SoundChanges.{nothing_there}
use Rattle.driver_model.proofs.SoundLooks.{Stands}

size_at : (objects : List Object) (place : ℕ) (object : Object) → slice_get objects place ≡ Some object → Sizes objects → HasSize object.content
size_at [] place object e sizes = nothing_there object e
size_at (one ∷ later) zero object e sizes = subst (λ (o : Object). HasSize o.content) (object_is one object e) sizes.0
size_at (one ∷ later) (suc place) object e sizes = size_at later place object e sizes.1

not_of_kind : {T : Type 0} {A : Type 0} (of : T) → (let o : Option T = None in o ≡ Some of) → A
not_of_kind of e = absurd (let k : (let o : Option _ = None in o ≡ Some of) = e in cc)

is_one : {T : Type 0} (a b : T) → Some a ≡ Some b → a ≡ b
is_one a b e = cc

video_content : (content : Content) (of : VideoSurface) → as_video content ≡ Some of → HasSize content → IsWithinLimits of.size
video_content (DeviceObject is) of e size = not_of_kind of e
video_content (VideoObject is) of e size = subst (λ (o : VideoSurface). IsWithinLimits o.size) (is_one is of e) size
video_content (OutputObject is) of e size = not_of_kind of e
video_content (DecoderObject is) of e size = not_of_kind of e
video_content (MixerObject is) of e size = not_of_kind of e
video_content (QueueObject is) of e size = not_of_kind of e

pub video_size : (s : State) (on : Found VideoSurface) → Stands s as_video on → HasSizes s → IsWithinLimits on.value.size
video_size s on is sizes = video_content is.0.content on.value is.4 (size_at s.objects on.place is.0 is.1 sizes)

output_content : (content : Content) (of : OutputSurface) → as_output content ≡ Some of → HasSize content → IsWithinLimits of.size
output_content (DeviceObject is) of e size = not_of_kind of e
output_content (VideoObject is) of e size = not_of_kind of e
output_content (OutputObject is) of e size = subst (λ (o : OutputSurface). IsWithinLimits o.size) (is_one is of e) size
output_content (DecoderObject is) of e size = not_of_kind of e
output_content (MixerObject is) of e size = not_of_kind of e
output_content (QueueObject is) of e size = not_of_kind of e

pub output_size : (s : State) (on : Found OutputSurface) → Stands s as_output on → HasSizes s → IsWithinLimits on.value.size
output_size s on is sizes = output_content is.0.content on.value is.4 (size_at s.objects on.place is.0 is.1 sizes)

mixer_content : (content : Content) (of : VideoMixer) → as_mixer content ≡ Some of → HasSize content → IsWithinLimits of.size
mixer_content (DeviceObject is) of e size = not_of_kind of e
mixer_content (VideoObject is) of e size = not_of_kind of e
mixer_content (OutputObject is) of e size = not_of_kind of e
mixer_content (DecoderObject is) of e size = not_of_kind of e
mixer_content (MixerObject is) of e size = subst (λ (o : VideoMixer). IsWithinLimits o.size) (is_one is of e) size
mixer_content (QueueObject is) of e size = not_of_kind of e

pub mixer_size : (s : State) (on : Found VideoMixer) → Stands s as_mixer on → HasSizes s → IsWithinLimits on.value.size
mixer_size s on is sizes = mixer_content is.0.content on.value is.4 (size_at s.objects on.place is.0 is.1 sizes)
