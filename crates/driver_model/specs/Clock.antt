-- Devices: their end, their preemption (vdpau.h, VdpPreemptionCallback), and the ticks of their clocks, at which queues show surfaces.
use Rattle.std.specs.Prelude.{◌≡◌, ℕ, ◌==◌, nat_le, Bool, true, false, ◌&&◌, if◌then◌else◌, List, [], ◌∷◌, map, filter_map, Option, Some, None, Ok, unwrap_or}
use Rattle.std.specs.List.{enumerate_from, list_any}
use Rattle.std.specs.Option.{option_and_then, option_map, option_map_or, ok_or}
use Rattle.cb_types.specs.SizeMbs.{luma_height, luma_width}
use Rattle.present_queue.specs.Queue.{due, ticked}
use Rattle.vd_status.specs.declared.refusal.Refusal.TheVariants.{InvalidHandle, TimeNotAfter}
use Rattle.driver_model.specs.Answers.{Goes, Leaves, Reply}
use Rattle.driver_model.specs.Objects.{Content, Device, DeviceObject, OutputObject, OutputSurface, QueueObject, PresentationQueue, Object, as_device, as_output, as_queue}
use Rattle.driver_model.specs.Queues.{emptied}
use Rattle.driver_model.specs.Refusals.{Looked, ◌>>=◌, ◌>>◌, first_handle, refused_if}
use Rattle.driver_model.specs.States.{State, Found, changed_at, content_at, is_out, name_at, named, with_content}
use Rattle.driver_model.specs.declared.replies.Answer.TheVariants.{Flips}
use Rattle.driver_model.specs.declared.replies.Flipped.{Flipped}

-- ---- what is looked at

-- VdpDeviceDestroy is done on a preempted device too.
abbrev pub device_destroy : State → ℕ → Looked (Found Device)
device_destroy s device = ok_or (named s as_device device) (InvalidHandle 0)

abbrev pub device : State → ℕ → Looked (Found Device)
device s handle = first_handle s (named s as_device handle)

-- a tick's time is after that of the tick before
abbrev pub advance : State → (handle time : ℕ) → Looked (Found Device)
advance s handle time = do
  on ← device s handle
  refused_if (nat_le time on.value.time) (TimeNotAfter on.value.time)
  Ok on

-- ---- a tick

-- A queue that is to show a surface, both by their places.
pub record Due : Type 0 where
  pub queue : ℕ
  pub surface : ℕ

-- the queue shows the surface of its oldest entry, if the entry's time has come
abbrev pub due_in : ℕ → ℕ → PresentationQueue → Option Due
due_in time place of = option_map (λ entry. record { queue = place; surface = entry.surface }) (due of.queue time)

-- so where the object at this place is a live queue of the device
abbrev pub due_at : ℕ → ℕ → ℕ × Object → Option Due
due_at on time (place, object) =
    if object.is_live && object.device == on then option_and_then (due_in time place) (as_queue object.content) else None

-- the queues of a device that are to show a surface at this time, in the order of creation
abbrev pub all_due : State → ℕ → ℕ → List Due
all_due s on time = filter_map (due_at on time) (enumerate_from 0 s.objects)

-- The queue loses its oldest entry and shows its surface; the one that it showed is let go.
abbrev pub with_tick : ℕ → Content → Content
with_tick time (QueueObject of) = QueueObject (record of { queue = ticked of.queue time })
with_tick time content = content

-- The surface's latest flip was on this queue at this time.
abbrev pub with_flip : ℕ → ℕ → Content → Content
with_flip queue time (OutputObject of) = OutputObject (record of { last_flip = Some (record { queue = queue; time = time }) })
with_flip queue time content = content

-- one queue shows a surface
abbrev pub shown : ℕ → Due → List Object → List Object
shown time due objects =
    changed_at due.surface (λ object. record object { content = with_flip due.queue time object.content })
    (changed_at due.queue (λ object. record object { content = with_tick time object.content }) objects)

-- and all of them, one after the other
unfoldable pub all_shown : ℕ → List Due → List Object → List Object
all_shown time [] objects = objects
all_shown time (due ∷ later) objects = all_shown time later (shown time due objects)

-- stands for a surface where there is none, which is so of no queue's entry in a legal history
abbrev pub no_output : OutputSurface
no_output = record { format = 0; size = record { width = 0; height = 0 }; bytes = []; last_flip = None }

-- what is told of a flip to this surface, with the bytes that it has now
abbrev pub flip_with : State → ℕ → Due → OutputSurface → Flipped
flip_with s time due of = record {
  queue = name_at s due.queue;
  window = option_map_or (λ on. on.window) (content_at s as_queue due.queue) 0;
  surface = name_at s due.surface;
  time = time;
  width = luma_width of.size;
  height = luma_height of.size;
  format = of.format;
  bytes = of.bytes;
}

-- the same of the surface that stands at the place
abbrev pub flip_of : State → ℕ → Due → Flipped
flip_of s time due = flip_with s time due (unwrap_or (content_at s as_output due.surface) no_output)

-- the device has this time, and each of its queues that is due has shown a surface
abbrev pub ticked_at : State → Found Device → ℕ → State
ticked_at s on time =
    let timed : State = with_content s on.place (DeviceObject (record on.value { time = time })) in
    record timed { objects = all_shown time (all_due s on.place time) timed.objects }

-- No tick flips to a surface while a job writes it.
abbrev pub is_tick_held : State → ℕ → ℕ → Bool
is_tick_held s on time = list_any (λ due. is_out s due.surface) (all_due s on time)

-- ---- the end of a device

-- a queue is emptied with its device; all else keeps what it has
abbrev pub let_go : Content → Content
let_go (QueueObject of) = QueueObject (emptied of)
let_go content = content

abbrev pub destroyed_on : ℕ → Object → Object
destroyed_on on object =
    if object.device == on then record object { is_live = false; content = let_go object.content } else object

module _ (old : State) (reply : Reply) (new : State) where
  -- VdpDeviceDestroy takes down with the device whatever was created on it.
  abbrev pub DeviceDestroy : ℕ → Type 0
  DeviceDestroy handle =
      Goes old reply new (device_destroy old handle) (λ on.
      Leaves old reply new (record old { objects = map (destroyed_on on.place) old.objects }))

  -- the display is preempted, from now on
  abbrev pub Preempt : ℕ → Type 0
  Preempt handle =
      Goes old reply new (device old handle) (λ on.
      Leaves old reply new (with_content old on.place (DeviceObject (record on.value { is_preempted = true }))))

  -- a tick of the device's clock, which answers the flips
  abbrev pub Advance : (handle time : ℕ) → Type 0
  Advance handle time =
      Goes old reply new (advance old handle time) (λ on.
      (is_tick_held old on.place time ≡ false)
      × (reply ≡ Ok (Flips (map (flip_of old time) (all_due old on.place time))))
      × (new ≡ ticked_at old on time))
