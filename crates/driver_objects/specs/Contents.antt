-- What the objects of a list have.
use Rattle.std.specs.Prelude.{◌≡◌, ℕ, true, List, slice_get, Some}
use Rattle.vd_plane.specs.declared.picture.Picture.{Picture}
use Rattle.driver_model.specs.Objects as model
use Rattle.driver_objects.specs.Stored.{value_of}
use Rattle.driver_objects.specs.declared.content.Content.{Content}
use Rattle.driver_objects.specs.declared.content.Content.TheVariants as content
use Rattle.driver_objects.specs.declared.content.Device.{Device}
use Rattle.driver_objects.specs.declared.content.OutputSurface.{OutputSurface}
use Rattle.driver_objects.specs.declared.content.VideoSurface.{VideoSurface}
use Rattle.driver_objects.specs.declared.object.Object.{Object}
use Rattle.driver_objects.specs.declared.content.LastFlip.{LastFlip}

-- the object at this place of the list has this content
pub record HasContent (kept : List Object) (index : ℕ) (what : Content) : Type 0 where
  pub object : Object
  pub there : slice_get kept index ≡ Some object
  pub has : object.content ≡ what

-- the object at this place of the list is a video surface
abbrev pub HasVideo : List Object → ℕ → Type 0
HasVideo kept index = (surface : VideoSurface) × HasContent kept index (content.Video surface)

-- the picture is what the video surface at this place of the list has
abbrev pub HasSamples : List Object → ℕ → Picture → Type 0
HasSamples kept index picture = (surface : VideoSurface) → HasContent kept index (content.Video surface) → picture ≡ value_of surface.samples

-- The object at this place of the list is an output surface.
abbrev pub HasOutput : List Object → ℕ → Type 0
HasOutput kept index = (surface : OutputSurface) × HasContent kept index (content.Output surface)

-- a live device with this place among all objects ever made has this
pub record HasDevice (kept : List Object) (place : ℕ) (device : Device) : Type 0 where
  pub index : ℕ
  pub object : Object
  pub stands : slice_get kept index ≡ Some object
  pub live : object.is_live ≡ true
  pub at_place : object.place ≡ place
  pub has : object.content ≡ content.Device device

-- a flip by the places alone, as the model of the driver has it
abbrev pub flip_of : LastFlip → model.LastFlip
flip_of flip = record { queue = flip.queue; time = flip.time }
