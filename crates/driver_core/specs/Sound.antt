-- What is true of what each core keeps. No public clause cites this module.
use Rattle.std.specs.Prelude.{◌≡◌, ℕ, ◌<◌, ◌≤◌, ◌==◌, ◌&&◌, Bool, true, false, List, length, slice_get, Some}
use Rattle.std.specs.List.{list_any}
use Rattle.std.specs.Option.{option_map_or}
use Rattle.cb_types.specs.SizeMbs.{IsWithinLimits}
use Rattle.handle_table.specs.Name.{kind_of}
use Rattle.present_queue.specs.Queue.{Names, Queue, empty_queue}
use Rattle.present_queue.specs.Queues.{IsWithinLimits as AreWithinLimits, Surface, queue_at}
use Rattle.driver_model.specs.Sizes.{is_profile, is_rgba_format, pixel_bytes}
use Rattle.vd_plane.specs.Picture.{HasSize}
use Rattle.driver_objects.specs.Kinds.{has_number, holder_of, is_device, is_device_at, kind_number, number_of}
use Rattle.driver_objects.specs.Stored.{value_of}
use Rattle.driver_objects.specs.declared.content.Content.TheVariants as content
use Rattle.driver_objects.specs.declared.content.Decoder.{Decoder}
use Rattle.driver_objects.specs.declared.content.OutputSurface.{OutputSurface}
use Rattle.driver_objects.specs.declared.content.VideoMixer.{VideoMixer}
use Rattle.driver_objects.specs.declared.content.VideoSurface.{VideoSurface}
use Rattle.driver_objects.specs.declared.object.Object.{Object}
use Rattle.driver_objects.specs.declared.jobs.OutJob.{OutJob}

-- The object is the output surface that a queue names so: by its place, and by its holder.
abbrev pub is_surface : Surface → Object → Bool
is_surface surface object = object.place == surface.object && option_map_or (λ holder. holder == surface.holder) (holder_of object.content) false

pub record IsSound (kept : List Object) (made : ℕ) (queues : List (Queue Surface)) (jobs : List OutJob) : Type 0 where
  -- a name says its object's kind
  pub kinds : (i : ℕ) (object : Object) → slice_get kept i ≡ Some object → kind_of object.name ≡ kind_number object.content
  -- sizes are within the limits, and what is stored fits them
  pub videos : (i : ℕ) (object : Object) (surface : VideoSurface) → slice_get kept i ≡ Some object → object.content ≡ content.Video surface
      → IsWithinLimits surface.size × HasSize (value_of surface.samples) surface.size
  pub outputs : (i : ℕ) (object : Object) (surface : OutputSurface) → slice_get kept i ≡ Some object → object.content ≡ content.Output surface
      → IsWithinLimits surface.size × (length (value_of surface.pixels).items ≡ pixel_bytes surface.size) × (is_rgba_format surface.format ≡ true)
  pub decoders : (i : ℕ) (object : Object) (decoder : Decoder) → slice_get kept i ≡ Some object → object.content ≡ content.Decoder decoder
      → IsWithinLimits decoder.size × (decoder.max_references ≤ 16) × (is_profile decoder.profile ≡ true)
  pub mixers : (i : ℕ) (object : Object) (mixer : VideoMixer) → slice_get kept i ≡ Some object → object.content ≡ content.Mixer mixer → IsWithinLimits mixer.size
  -- a live object's device is live, and a device is its own
  pub devices : (i : ℕ) (object : Object) → slice_get kept i ≡ Some object → object.is_live ≡ true → list_any (is_device_at object.device) kept ≡ true
  pub own : (i : ℕ) (object : Object) → slice_get kept i ≡ Some object → is_device object.content ≡ true → object.device ≡ object.place
  -- a destroyed one is kept only while a queue names it
  pub named : (i : ℕ) (object : Object) → slice_get kept i ≡ Some object → object.is_live ≡ false
      → ∥ ((holder : ℕ) × (holder_of object.content ≡ Some holder) × (number : ℕ) × Names (queue_at queues number) (record { object = object.place; holder = holder })) ∥₁
  -- there are 64 queues, and none has more entries than a queue can have
  pub limits : AreWithinLimits queues
  -- each queue has a number of its own, and a number without a queue an empty one
  pub numbers : (i : ℕ) (object : Object) (number : ℕ) → slice_get kept i ≡ Some object → number_of object.content ≡ Some number → number < 64
  pub numbers_apart : (i j : ℕ) (a b : Object) (number : ℕ) → slice_get kept i ≡ Some a → slice_get kept j ≡ Some b → number_of a.content ≡ Some number → number_of b.content ≡ Some number → i ≡ j
  pub unused : (number : ℕ) → list_any (has_number number) kept ≡ false → queue_at queues number ≡ empty_queue
  -- each output surface has a holder of its own, under which queues name it
  pub holders : (i : ℕ) (object : Object) (holder : ℕ) → slice_get kept i ≡ Some object → holder_of object.content ≡ Some holder → holder < 5184
  pub holders_apart : (i j : ℕ) (a b : Object) (holder : ℕ) → slice_get kept i ≡ Some a → slice_get kept j ≡ Some b → holder_of a.content ≡ Some holder → holder_of b.content ≡ Some holder → i ≡ j
  pub surfaces : (number : ℕ) (surface : Surface) → Names (queue_at queues number) surface → list_any (is_surface surface) kept ≡ true
  -- jobs write objects that were made
  pub targets : (i : ℕ) (job : OutJob) → slice_get jobs i ≡ Some job → job.target < made
