-- Which destroyed objects are still kept.
use Rattle.std.specs.Prelude.{◌≡◌, ℕ, ◌<◌, ◌||◌, Bool, false, List, slice_get, Some}
use Rattle.std.specs.Option.{option_map_or}
use Rattle.present_queue.specs.Queue.{Queue, is_queued, is_shown}
use Rattle.present_queue.specs.Queues.{Surface, has_holder}
use Rattle.driver_objects.specs.Kinds.{holder_of}
use Rattle.driver_objects.specs.declared.object.Object.{Object}

-- a queue names the surface of this holder
abbrev pub is_held : List (Queue Surface) → ℕ → Bool
is_held queues holder = is_queued (has_holder holder) queues || is_shown (has_holder holder) queues

-- the object is live, or a queue names it
abbrev pub is_wanted : List (Queue Surface) → Object → Bool
is_wanted queues object = object.is_live || option_map_or (is_held queues) (holder_of object.content) false

-- each holder is a number of the queues
abbrev pub AreWithin : List Object → Type 0
AreWithin kept = (i : ℕ) (object : Object) (holder : ℕ) → slice_get kept i ≡ Some object → holder_of object.content ≡ Some holder → holder < 5184
