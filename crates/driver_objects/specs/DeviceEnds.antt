-- What becomes of the kept objects and of the queues at the end of a device.
use Rattle.std.specs.Prelude.{◌≡◌, ℕ, ◌<◌, ◌==◌, ◌&&◌, Bool, if◌then◌else◌, List, slice_get, slice_set, Option, Some, None}
use Rattle.present_queue.specs.Queue.{Queue, empty_queue}
use Rattle.present_queue.specs.Queues.{Surface}
use Rattle.driver_objects.specs.Kinds.{has_number, number_of}
use Rattle.driver_objects.specs.Listed.{destroyed}
use Rattle.driver_objects.specs.declared.object.Object.{Object}

-- an object is destroyed with its device
abbrev pub ended : ℕ → Object → Object
ended on object = if object.device == on then destroyed object else object

-- the object is the live queue of this number, and belongs to the device
abbrev pub is_queue_on : (on number : ℕ) → Object → Bool
is_queue_on on number object = object.is_live && object.device == on && has_number number object

-- the queue of this number, if there is one, is as it was at first
abbrev pub without_queue : Option ℕ → List (Queue Surface) → List (Queue Surface)
without_queue None queues = queues
without_queue (Some number) queues = slice_set queues number empty_queue

-- each queue's number is one of the queues
abbrev pub AreNumbered : List Object → Type 0
AreNumbered kept = (i : ℕ) (object : Object) (number : ℕ) → slice_get kept i ≡ Some object → number_of object.content ≡ Some number → number < 64
