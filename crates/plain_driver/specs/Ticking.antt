-- What the program tells of a tick and does at it.
use Rattle.std.specs.Prelude.{◌≡◌, ℕ, ◌==◌, ◌&&◌, if◌then◌else◌, List, map, Option, None, option_map, unwrap_or}
use Rattle.std.specs.Option.{option_and_then, option_map_or}
use Rattle.cb_types.specs.SizeMbs.{luma_height, luma_width}
use Rattle.present_queue.specs.Queue.{due}
use Rattle.driver_model.specs.Clock.{Due, all_shown, no_output}
use Rattle.driver_model.specs.Objects.{Content, OutputSurface, as_output, as_queue}
use Rattle.driver_model.specs.States.{State, content_at}
use Rattle.driver_model.specs.declared.replies.Answer.{Answer}
use Rattle.driver_model.specs.declared.replies.Answer.TheVariants.{Flips}
use Rattle.driver_model.specs.declared.replies.Flipped.{Flipped}
use Rattle.plain_driver.specs.States.{content_of}
use Rattle.plain_driver.specs.declared.clock.PlainFlipped.{PlainFlipped}
use Rattle.plain_driver.specs.declared.clock.PlainPixels.{PlainPixels}
use Rattle.plain_driver.specs.declared.objects.PlainObject.{PlainObject}
use Rattle.plain_driver.specs.declared.queues.Places.{Places}

abbrev pub due_of : Places → Due
due_of places = record { queue = places.queue; surface = places.surface }

abbrev pub flipped_of : PlainFlipped → Flipped
flipped_of flip = record {
  queue = flip.queue;
  window = flip.window;
  surface = flip.surface;
  time = flip.time;
  width = flip.width;
  height = flip.height;
  format = flip.format;
  bytes = flip.bytes.items;
}

abbrev pub flips_told : List PlainFlipped → Answer
flips_told flips = Flips (map flipped_of flips)

-- the surface that the object is to show, if it is a live queue of the device and its oldest entry is due
abbrev pub due_surface : (on time : ℕ) → PlainObject → Option ℕ
due_surface on time object =
    if object.is_live && object.device == on
    then option_and_then (λ of. option_map (λ entry. entry.surface) (due of.queue time)) (as_queue (content_of object.content))
    else None

abbrev pub window_in : Content → ℕ
window_in content = option_map_or (λ on. on.window) (as_queue content) 0

abbrev pub window_at : State → ℕ → ℕ
window_at s place = option_map_or (λ on. on.window) (content_at s as_queue place) 0

abbrev pub output_in : Content → OutputSurface
output_in content = unwrap_or (as_output content) no_output

abbrev pub output_at : State → ℕ → OutputSurface
output_at s place = unwrap_or (content_at s as_output place) no_output

-- these are the pixels of the surface
pub record AreOf (pixels : PlainPixels) (of : OutputSurface) : Type 0 where
  pub width : pixels.width ≡ luma_width of.size
  pub height : pixels.height ≡ luma_height of.size
  pub format : pixels.format ≡ of.format
  pub bytes : pixels.bytes.items ≡ of.bytes

abbrev pub with_all_shown : State → ℕ → List Due → State
with_all_shown s time dues = record s { objects = all_shown time dues s.objects }
