-- What the program does to one queue, and how it finds a queue and a surface of its device.
use Rattle.std.specs.Prelude.{◌≡◌, ◌≢◌, ℕ, ◌==◌, Bool, false, List, length, Some, Ok, Err}
use Rattle.std.specs.List.{list_any}
use Rattle.std.specs.Option.{option_and_then, option_map_or}
use Rattle.present_queue.specs.Queue.{Queued, displayed, holds, most_entries, promised, shows}
use Rattle.driver_model.specs.Objects.{Content, Object, PresentationQueue, QueueObject, as_device, as_output, as_queue}
use Rattle.driver_model.specs.Presented.{time_if_on}
use Rattle.driver_model.specs.Queues.{QueueAndSurface}
use Rattle.driver_model.specs.Refusals.{Looked}
use Rattle.driver_model.specs.States.{State, changed_at}
use Rattle.plain_driver.specs.States.{queue_of}
use Rattle.plain_driver.specs.declared.objects.PlainContent.{PlainContent}
use Rattle.plain_driver.specs.declared.objects.PlainContent.TheVariants as plain
use Rattle.plain_driver.specs.declared.objects.PlainObject.{PlainObject}
use Rattle.plain_driver.specs.declared.queues.Places.{Places}

-- the places of what was found
abbrev pub both_placed : Looked QueueAndSurface → Looked Places
both_placed (Ok found) = Ok (record { queue = found.queue.place; surface = found.surface.place })
both_placed (Err refusal) = Err refusal

-- the object at a place with its content changed
abbrev pub with_changed : State → ℕ → (Content → Content) → State
with_changed s place change = record s { objects = changed_at place (λ object. record object { content = change object.content }) s.objects }

abbrev pub with_object_changed : State → ℕ → (Object → Object) → State
with_object_changed s place change = record s { objects = changed_at place change s.objects }

-- Where the content is a queue, another entry has room in it.
abbrev pub HasRoom : Content → Type 0
HasRoom content = (of : PresentationQueue) → as_queue content ≡ Some of → length of.queue.entries ≢ most_entries

-- a queue with one entry more, the last one; all else stays
abbrev pub lined_up : Queued ℕ → Content → Content
lined_up entry (QueueObject of) = QueueObject (record of { queue = displayed of.queue entry })
lined_up entry content = content

-- a queue that has promised this time
abbrev pub promised_in : ℕ → Content → Content
promised_in time (QueueObject of) = QueueObject (record of { queue = promised of.queue time })
promised_in time content = content

-- when this queue showed the surface last
abbrev pub first_time_in : ℕ → Content → ℕ
first_time_in queue content = option_map_or (time_if_on queue) (option_and_then (λ of. of.last_flip) (as_output content)) 0

-- what a clock stands at
abbrev pub time_in : Content → ℕ
time_in content = option_map_or (λ of. of.time) (as_device content) 0

-- a queue that shows the surface at this place, or has it in line
abbrev pub shows_in : ℕ → PlainContent → Bool
shows_in surface (plain.Queue of) = shows (λ place. place == surface) (queue_of of)
shows_in surface _ = false

abbrev pub holds_in : ℕ → PlainContent → Bool
holds_in surface (plain.Queue of) = holds (λ place. place == surface) (queue_of of)
holds_in surface _ = false

abbrev pub some_shows : ℕ → List PlainObject → Bool
some_shows surface objects = list_any (λ object. shows_in surface object.content) objects

abbrev pub some_holds : ℕ → List PlainObject → Bool
some_holds surface objects = list_any (λ object. holds_in surface object.content) objects
