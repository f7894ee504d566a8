-- The state of a driver for which what the program keeps stands.
use Rattle.std.specs.Prelude.{ℕ, List, map, option_map}
use Rattle.driver_model.specs.Objects as model
use Rattle.driver_model.specs.Objects.{Content, Object, DeviceObject, VideoObject, OutputObject, DecoderObject, MixerObject, QueueObject}
use Rattle.driver_model.specs.States.{Note, State}
use Rattle.present_queue.specs.Queue.{Queue, Queued}
use Rattle.plain_driver.specs.declared.driver.Plain.{Plain}
use Rattle.plain_driver.specs.declared.objects.PlainContent.{PlainContent}
use Rattle.plain_driver.specs.declared.objects.PlainContent.TheVariants as plain
use Rattle.plain_driver.specs.declared.objects.PlainDecoder.{PlainDecoder}
use Rattle.plain_driver.specs.declared.objects.PlainDevice.{PlainDevice}
use Rattle.plain_driver.specs.declared.objects.PlainFlip.{PlainFlip}
use Rattle.plain_driver.specs.declared.objects.PlainMixer.{PlainMixer}
use Rattle.plain_driver.specs.declared.objects.PlainNote.{PlainNote}
use Rattle.plain_driver.specs.declared.objects.PlainObject.{PlainObject}
use Rattle.plain_driver.specs.declared.objects.PlainOutput.{PlainOutput}
use Rattle.plain_driver.specs.declared.objects.PlainQueue.{PlainQueue}
use Rattle.plain_driver.specs.declared.objects.PlainQueued.{PlainQueued}
use Rattle.plain_driver.specs.declared.objects.PlainVideo.{PlainVideo}

abbrev pub device_of : PlainDevice → model.Device
device_of of = record { time = of.time; is_preempted = of.is_preempted }

abbrev pub video_of : PlainVideo → model.VideoSurface
video_of of = record { size = of.size; picture = of.picture }

abbrev pub flip_of : PlainFlip → model.LastFlip
flip_of of = record { queue = of.queue; time = of.time }

abbrev pub output_of : PlainOutput → model.OutputSurface
output_of of = record { format = of.format; size = of.size; bytes = of.bytes.items; last_flip = option_map flip_of of.last_flip }

abbrev pub decoder_of : PlainDecoder → model.Decoder
decoder_of of = record { profile = of.profile; size = of.size; max_references = of.max_references }

abbrev pub mixer_of : PlainMixer → model.VideoMixer
mixer_of of = record { size = of.size; matrix = of.matrix }

abbrev pub queued_of : PlainQueued → Queued ℕ
queued_of of = record { surface = of.surface; earliest = of.earliest }

abbrev pub queue_of : PlainQueue → Queue ℕ
queue_of of = record { entries = map queued_of of.entries.items; visible = of.visible; promise = of.promise }

abbrev pub presentation_of : PlainQueue → model.PresentationQueue
presentation_of of = record { window = of.window; queue = queue_of of }

abbrev pub content_of : PlainContent → Content
content_of (plain.Device of) = DeviceObject (device_of of)
content_of (plain.Video of) = VideoObject (video_of of)
content_of (plain.Output of) = OutputObject (output_of of)
content_of (plain.Decoder of) = DecoderObject (decoder_of of)
content_of (plain.Mixer of) = MixerObject (mixer_of of)
content_of (plain.Queue of) = QueueObject (presentation_of of)

abbrev pub object_of : PlainObject → Object
object_of of = record { name = of.name; device = of.device; is_live = of.is_live; content = content_of of.content }

abbrev pub note_of : PlainNote → Note
note_of of = record { place = of.place; caller = of.caller.items; target = of.target; outcome = of.outcome; number = of.number }

abbrev pub objects_of : List PlainObject → List Object
objects_of objects = map object_of objects

abbrev pub state_of : Plain → State
state_of of = record { objects = objects_of of.objects.items; notes = map note_of of.notes.items; items = of.items }
