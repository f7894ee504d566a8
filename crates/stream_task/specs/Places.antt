-- The places for a task's objects, and the calls that make and destroy these.
use Rattle.std.specs.Prelude.{ℕ, ◌+◌, ◌<◌, ◌==◌, Bool, false, ◌&&◌, Option, Some, None, ⊤}
use Rattle.cb_types.specs.SizeMbs.{luma_height, luma_width}
use Rattle.cb_types.specs.declared.size.SizeMbs.{SizeMbs}
use Rattle.driver_model.specs.declared.calls.Call.{Call}
use Rattle.driver_model.specs.declared.calls.Call.TheVariants as call
use Rattle.driver_model.specs.declared.numbers.TheConstants.{CHROMA_420, CONSTRAINED_BASELINE, MAX_REFERENCES}
use Rattle.mixer.specs.declared.TheConstants.{B8G8R8A8}
use Rattle.stream_task.specs.declared.objects.Made.{Made}
use Rattle.stream_task.specs.declared.objects.Place.{Place}
use Rattle.stream_task.specs.declared.objects.Place.TheVariants as place

abbrev pub IsPlace : Place → Type 0
IsPlace (place.Video number) = number < 34
IsPlace (place.Output number) = number < 4
IsPlace _ = ⊤

abbrev pub index_of : Place → ℕ
index_of place.Decoder = 0
index_of place.Mixer = 1
index_of (place.Video number) = 2 + number
index_of (place.Output number) = 36 + number

-- the object is there, for pictures of this size
abbrev pub fits : SizeMbs → Option Made → Bool
fits size None = false
fits size (Some made) = made.size.width == size.width && made.size.height == size.height

-- the call that makes the object of a place on a device, for pictures of this size
abbrev pub create_call : ℕ → Place → SizeMbs → Call
create_call device place.Decoder size = call.DecoderCreate device CONSTRAINED_BASELINE (luma_width size) (luma_height size) MAX_REFERENCES
create_call device place.Mixer size = call.MixerCreate device (luma_width size) (luma_height size)
create_call device (place.Video number) size = call.VideoCreate device CHROMA_420 (luma_width size) (luma_height size)
create_call device (place.Output number) size = call.OutputCreate device B8G8R8A8 (luma_width size) (luma_height size)

-- the call that destroys it
abbrev pub destroy_call : Place → ℕ → Call
destroy_call place.Decoder name = call.DecoderDestroy name
destroy_call place.Mixer name = call.MixerDestroy name
destroy_call (place.Video number) name = call.VideoDestroy name
destroy_call (place.Output number) name = call.OutputDestroy name
