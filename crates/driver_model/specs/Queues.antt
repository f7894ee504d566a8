-- The calls on presentation queues (vdpau.h, VdpPresentationQueue..).
use Rattle.std.specs.Prelude.{◌≡◌, ℕ, true, [], None, Ok}
use Rattle.present_queue.specs.Queue.{Queue, Queued, answer_to_display, displayed, promised}
use Rattle.driver_model.specs.Answers.{Goes, Leaves, Reply, Tells}
use Rattle.driver_model.specs.Objects.{QueueObject, PresentationQueue, OutputSurface, as_output, as_queue}
use Rattle.driver_model.specs.Presented.{first_time, is_idle_at, status_at}
use Rattle.driver_model.specs.Refusals.{Looked, ◌>>=◌, ◌>>◌, first_handle, further_handle}
use Rattle.driver_model.specs.States.{State, Found, destroyed_with, named, time_of, with_content}
use Rattle.driver_model.specs.declared.replies.Answer.TheVariants.{Status, Time}

-- a queue as the first handle of a call
abbrev pub queue : State → ℕ → Looked (Found PresentationQueue)
queue s handle = first_handle s (named s as_queue handle)

-- a queue and an output surface of its device
pub record QueueAndSurface : Type 0 where
  pub queue : Found PresentationQueue
  pub surface : Found OutputSurface

abbrev pub presented : State → (handle surface : ℕ) → Looked QueueAndSurface
presented s handle surface = do
  on ← queue s handle
  of ← further_handle 1 on.device (named s as_output surface)
  Ok (record { queue = on; surface = of })

-- VdpPresentationQueueDisplay: the queue isn't full, and the time isn't before its promise
abbrev pub queue_display : State → (handle surface earliest : ℕ) → Looked QueueAndSurface
queue_display s handle surface earliest = do
  on ← presented s handle surface
  answer_to_display on.queue.value.queue earliest
  Ok on

-- the queue has these entries, this visible surface and this promise
abbrev pub with_queue : State → Found PresentationQueue → Queue ℕ → State
with_queue s on queue = with_content s on.place (QueueObject (record on.value { queue = queue }))

-- a queue that has let go of its entries and of its visible surface
abbrev pub emptied : PresentationQueue → PresentationQueue
emptied of = record of { queue = record of.queue { entries = []; visible = None } }

module _ (old : State) (reply : Reply) (new : State) where
  -- VdpPresentationQueueDestroy
  abbrev pub QueueDestroy : ℕ → Type 0
  QueueDestroy handle =
      Goes old reply new (queue old handle) (λ on.
      Leaves old reply new (destroyed_with old on.place (QueueObject (emptied on.value))))

  -- VdpPresentationQueueDisplay: the entry is the last one of the queue
  abbrev pub QueueDisplay : (handle surface earliest : ℕ) → Type 0
  QueueDisplay handle surface earliest =
      Goes old reply new (queue_display old handle surface earliest) (λ on.
      let entry : Queued ℕ = record { surface = on.surface.place; earliest = earliest } in
      Leaves old reply new (with_queue old on.queue (displayed on.queue.value.queue entry)))

  -- VdpPresentationQueueQuerySurfaceStatus
  abbrev pub QueryStatus : (handle surface : ℕ) → Type 0
  QueryStatus handle surface =
      Goes old reply new (presented old handle surface) (λ on.
      Tells old reply new (Status (record {
        status = status_at old on.surface.place;
        first_time = first_time old on.queue.place on.surface.place;
      })))

  -- VdpPresentationQueueBlockUntilSurfaceIdle: no answer before the surface is idle
  abbrev pub BlockUntilIdle : (handle surface : ℕ) → Type 0
  BlockUntilIdle handle surface =
      Goes old reply new (presented old handle surface) (λ on.
      (is_idle_at old on.surface.place ≡ true) × Tells old reply new (Time (first_time old on.queue.place on.surface.place)))

  -- VdpPresentationQueueGetTime: what the device's clock stands at
  abbrev pub GetTime : ℕ → Type 0
  GetTime handle = Goes old reply new (queue old handle) (λ on. Tells old reply new (Time (time_of old on.device)))

  -- the promise never falls
  abbrev pub Promise : (handle time : ℕ) → Type 0
  Promise handle time =
      Goes old reply new (queue old handle) (λ on. Leaves old reply new (with_queue old on (promised on.value.queue time)))
