-- Ticks of a device's clock, in what is kept.
use Rattle.std.specs.Prelude.{◌≡◌, ℕ, ◌<◌, ◌==◌, ◌&&◌, if◌then◌else◌, List, [], ◌∷◌, map, slice_get, slice_set, Option, Some, None, option_map}
use Rattle.present_queue.specs.Queue.{Queue, Queued, due, ticked}
use Rattle.present_queue.specs.Queues.{Surface, queue_at}
use Rattle.driver_model.specs.Clock as model
use Rattle.driver_objects.specs.Listed.{with_content}
use Rattle.driver_objects.specs.declared.content.Content.{Content}
use Rattle.driver_objects.specs.declared.content.Content.TheVariants as content
use Rattle.driver_objects.specs.declared.content.LastFlip.{LastFlip}
use Rattle.driver_objects.specs.declared.content.PresentationQueue.{PresentationQueue}
use Rattle.driver_objects.specs.declared.object.Object.{Object}
use Rattle.driver_objects.specs.declared.ticks.Due.{Due}

-- ---- which queues are due

-- the queue is to show the surface of this entry
abbrev pub due_with : Object → PresentationQueue → Queued Surface → Due
due_with object of entry = record { queue = object.place; name = object.name; window = of.window; number = of.number; surface = entry.surface.object }

-- a queue is due if the time of its oldest entry has come
abbrev pub due_in : List (Queue Surface) → (time : ℕ) → Object → Content → Option Due
due_in queues time object (content.Queue of) = option_map (due_with object of) (due (queue_at queues of.number) time)
due_in queues time object _ = None

-- so where the object is a live queue of the device
abbrev pub due_of : List (Queue Surface) → (on time : ℕ) → Object → Option Due
due_of queues on time object = if object.is_live && object.device == on then due_in queues time object object.content else None

-- by places alone
abbrev pub placed : Due → model.Due
placed due = record { queue = due.queue; surface = due.surface }

-- ---- the tick

-- the surface's latest flip is this one
abbrev pub with_flip : LastFlip → Content → Content
with_flip flip (content.Output of) = content.Output (record of { last_flip = Some flip })
with_flip flip content = content

-- so of the object at this place
abbrev pub noted : ℕ → LastFlip → Object → Object
noted place flip object = with_content object (if object.place == place then with_flip flip object.content else object.content)

-- the device has this time
abbrev pub with_time : ℕ → Content → Content
with_time time (content.Device device) = content.Device (record device { time = time })
with_time time content = content

abbrev pub timed : (on time : ℕ) → Object → Object
timed on time object = with_content object (if object.place == on then with_time time object.content else object.content)

-- the flip of a surface to a queue that is due
abbrev pub flip_at : ℕ → Due → LastFlip
flip_at time due = record { queue = due.queue; time = time }

-- the kept objects after all flips, one after the other
abbrev pub all_noted : ℕ → List Due → List Object → List Object
all_noted time [] kept = kept
all_noted time (due ∷ later) kept = all_noted time later (map (noted due.surface (flip_at time due)) kept)

-- and the queues
abbrev pub all_ticked : ℕ → List Due → List (Queue Surface) → List (Queue Surface)
all_ticked time [] queues = queues
all_ticked time (due ∷ later) queues = all_ticked time later (slice_set queues due.number (ticked (queue_at queues due.number) time))

-- each number is one of the queues
abbrev pub HaveNumbers : List Due → Type 0
HaveNumbers dues = (i : ℕ) (due : Due) → slice_get dues i ≡ Some due → due.number < 64
