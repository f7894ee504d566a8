-- What a contract sees of the flips of a tick.
use Rattle.std.specs.Prelude.{◌≡◌, ℕ, List, length, map, slice_get, Some}
use Rattle.std.specs.Arc.{arc_value}
use Rattle.cb_types.specs.SizeMbs.{IsWithinLimits, luma_height, luma_width}
use Rattle.driver_model.specs.declared.replies.Flipped.{Flipped}
use Rattle.driver_objects.specs.Stored.{value_of}
use Rattle.driver_objects.specs.declared.content.Content.TheVariants as content
use Rattle.driver_objects.specs.declared.content.OutputSurface.{OutputSurface}
use Rattle.driver_objects.specs.declared.object.Object.{Object}
use Rattle.driver_objects.specs.declared.flips.Flip.{Flip}
use Rattle.driver_objects.specs.declared.flips.Flips.{Flips}
use Rattle.driver_objects.specs.declared.flips.Pixels.{Pixels}
use Rattle.driver_objects.specs.declared.ticks.Due.{Due}

abbrev pub bytes_of : Pixels → List ℕ
bytes_of pixels = (arc_value pixels.shared).items

-- a flip as a history keeps it
abbrev pub told : Flip → Flipped
told flip = record {
  queue = flip.queue;
  window = flip.window;
  surface = flip.surface;
  time = flip.time;
  width = flip.width;
  height = flip.height;
  format = flip.format;
  bytes = bytes_of flip.pixels;
}

-- the flips, in order
abbrev pub list_of : Flips → List Flip
list_of flips = flips.list.items

abbrev pub flipped : Flips → List Flipped
flipped flips = map told (list_of flips)

-- ---- what is flipped to

-- the object at this place is an output surface
pub record HasSurface (kept : List Object) (place : ℕ) : Type 0 where
  pub index : ℕ
  pub object : Object
  pub surface : OutputSurface
  pub there : slice_get kept index ≡ Some object
  pub at_place : object.place ≡ place
  pub has : object.content ≡ content.Output surface
  pub within : IsWithinLimits surface.size

-- the object is an output surface with these pixels
pub record ShowsPixels (object : Object) (pixels : Pixels) : Type 0 where
  pub surface : OutputSurface
  pub has : object.content ≡ content.Output surface
  pub within : IsWithinLimits surface.size
  pub bytes : bytes_of pixels ≡ (value_of surface.pixels).items

-- so of each surface that is to be shown
abbrev pub HaveSurfaces : List Object → List Due → Type 0
HaveSurfaces kept dues = (i : ℕ) (due : Due) → slice_get dues i ≡ Some due → HasSurface kept due.surface

-- what is told of a flip to this surface
abbrev pub shown_by : ℕ → Due → Object → OutputSurface → Flipped
shown_by time due object of = record {
  queue = due.name;
  window = due.window;
  surface = object.name;
  time = time;
  width = luma_width of.size;
  height = luma_height of.size;
  format = of.format;
  bytes = (value_of of.pixels).items;
}

-- The flip shows the surface that is kept at the place.
pub record IsFlip (kept : List Object) (time : ℕ) (due : Due) (flip : Flip) : Type 0 where
  pub surface : HasSurface kept due.surface
  pub tells : told flip ≡ shown_by time due surface.object surface.surface

-- There is a flip for each queue that is due.
pub record AreFlips (kept : List Object) (time : ℕ) (dues : List Due) (flips : List Flip) : Type 0 where
  pub count : length flips ≡ length dues
  pub each : (i : ℕ) (due : Due) (flip : Flip) → slice_get dues i ≡ Some due → slice_get flips i ≡ Some flip → IsFlip kept time due flip
