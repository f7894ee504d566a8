-- How much a driver keeps.
use Rattle.std.specs.Prelude.{ℕ, ◌==◌, Bool, ◌&&◌, ◌||◌, if◌then◌else◌, List, length, count_by, filter_map, sum_by, Option, None}
use Rattle.std.specs.List.{enumerate_from}
use Rattle.std.specs.Option.{is_some}
use Rattle.present_queue.specs.Queue.{Queue, is_queued, is_shown}
use Rattle.driver_model.specs.Answers.{Reply, Tells}
use Rattle.driver_model.specs.Objects.{Object, as_output, as_video}
use Rattle.driver_model.specs.Presented.{queue_in}
use Rattle.driver_model.specs.States.{State}
use Rattle.driver_model.specs.declared.replies.Answer.TheVariants.{Counts}
use Rattle.driver_model.specs.declared.replies.KeptCounts.{KeptCounts}

abbrev pub live_queue : Object → Option (Queue ℕ)
live_queue object = if object.is_live then queue_in object else None

abbrev pub live_queues_of : State → List (Queue ℕ)
live_queues_of s = filter_map live_queue s.objects

-- a live queue has an entry of the object at this place, or shows it
abbrev pub is_in_queue : State → ℕ → Bool
is_in_queue s surface = is_queued (λ place. place == surface) (live_queues_of s) || is_shown (λ place. place == surface) (live_queues_of s)

-- A surface is kept while it is live, or a live queue has an entry of it or shows it.
abbrev pub is_kept : State → ℕ × Object → Bool
is_kept s (place, object) =
    (is_some (as_video object.content) || is_some (as_output object.content)) && (object.is_live || is_in_queue s place)

abbrev pub kept_counts : State → KeptCounts
kept_counts s = record {
  surfaces = count_by (is_kept s) (enumerate_from 0 s.objects);
  entries = sum_by (λ queue. length queue.entries) (live_queues_of s);
}

-- so many surfaces and queue entries are kept
abbrev pub TellsKept : (old : State) (reply : Reply) (new : State) → Type 0
TellsKept old reply new = Tells old reply new (Counts (kept_counts old))
