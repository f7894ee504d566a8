-- The kept objects by their kinds.
use Rattle.std.specs.Prelude.{ℕ, ◌==◌, ◌&&◌, Bool, true, false, Option, Some, None}
use Rattle.std.specs.Option.{option_map_or}
use Rattle.driver_model.specs.declared.numbers.TheConstants as number
use Rattle.driver_objects.specs.declared.content.Content.{Content}
use Rattle.driver_objects.specs.declared.content.Content.TheVariants as content
use Rattle.driver_objects.specs.declared.object.Object.{Object}

-- the number of the kind, which the object's name says, too
abbrev pub kind_number : Content → ℕ
kind_number (content.Device device) = number.DEVICE
kind_number (content.Video surface) = number.VIDEO_SURFACE
kind_number (content.Output surface) = number.OUTPUT_SURFACE
kind_number (content.Decoder decoder) = number.DECODER
kind_number (content.Mixer mixer) = number.VIDEO_MIXER
kind_number (content.Queue queue) = number.PRESENTATION_QUEUE

abbrev pub is_device : Content → Bool
is_device (content.Device device) = true
is_device _ = false

abbrev pub is_queue : Content → Bool
is_queue (content.Queue queue) = true
is_queue _ = false

abbrev pub is_video : Content → Bool
is_video (content.Video surface) = true
is_video _ = false

abbrev pub is_output : Content → Bool
is_output (content.Output surface) = true
is_output _ = false

abbrev pub is_decoder : Content → Bool
is_decoder (content.Decoder decoder) = true
is_decoder _ = false

abbrev pub is_mixer : Content → Bool
is_mixer (content.Mixer mixer) = true
is_mixer _ = false

-- the holder of an output surface, its number in the presentation queues
abbrev pub holder_of : Content → Option ℕ
holder_of (content.Output surface) = Some surface.holder
holder_of _ = None

-- the number of a presentation queue
abbrev pub number_of : Content → Option ℕ
number_of (content.Queue queue) = Some queue.number
number_of _ = None

-- the live device at this place among all objects ever made
abbrev pub is_device_at : ℕ → Object → Bool
is_device_at place object = object.is_live && object.place == place && is_device object.content

-- the object is the output surface of this holder
abbrev pub has_own_holder : ℕ → Object → Bool
has_own_holder holder object = option_map_or (λ own. own == holder) (holder_of object.content) false

-- the object is the queue of this number
abbrev pub has_number : ℕ → Object → Bool
has_number number object = option_map_or (λ own. own == number) (number_of object.content) false
