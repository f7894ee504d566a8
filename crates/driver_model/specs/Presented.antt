-- How output surfaces stand to the presentation queues (vdpau.h, VdpPresentationQueueStatus).
use Rattle.std.specs.Prelude.{ℕ, ◌==◌, Bool, not, ◌||◌, if◌then◌else◌, List, filter_map, Option}
use Rattle.std.specs.Option.{option_map_or, option_map, option_and_then}
use Rattle.present_queue.specs.Queue.{Queue, is_queued, is_shown}
use Rattle.driver_model.specs.Objects.{LastFlip, Object, as_output, as_queue}
use Rattle.driver_model.specs.States.{State, content_at}
use Rattle.driver_model.specs.declared.replies.PresentStatus.{PresentStatus}
use Rattle.driver_model.specs.declared.replies.PresentStatus.TheVariants.{Idle, Queued, Visible}

-- the queue of an object, if it is one
abbrev pub queue_in : Object → Option (Queue ℕ)
queue_in object = option_map (λ of. of.queue) (as_queue object.content)

-- All queues, of which a destroyed one is empty.
abbrev pub queues_of : State → List (Queue ℕ)
queues_of s = filter_map queue_in s.objects

-- some queue shows the surface at this place
abbrev pub is_visible_at : State → ℕ → Bool
is_visible_at s surface = is_shown (λ place. place == surface) (queues_of s)

-- some queue has an entry of it
abbrev pub is_queued_at : State → ℕ → Bool
is_queued_at s surface = is_queued (λ place. place == surface) (queues_of s)

-- the first of VDP_PRESENTATION_QUEUE_STATUS_VISIBLE, _QUEUED and _IDLE that fits
abbrev pub status_at : State → ℕ → PresentStatus
status_at s surface = if is_visible_at s surface then Visible else if is_queued_at s surface then Queued else Idle

abbrev pub is_idle_at : State → ℕ → Bool
is_idle_at s surface = not (is_visible_at s surface || is_queued_at s surface)

-- a flip's time as this queue tells it: of another queue's flips it knows nothing
abbrev pub time_if_on : ℕ → LastFlip → ℕ
time_if_on queue flip = if flip.queue == queue then flip.time else 0

-- first_presentation_time of VdpPresentationQueueQuerySurfaceStatus: when this queue flipped to the surface last, and 0 if it never
-- did or another queue has done so since
abbrev pub first_time : State → ℕ → ℕ → ℕ
first_time s queue surface =
    option_map_or (time_if_on queue) (option_and_then (λ of. of.last_flip) (content_at s as_output surface)) 0
