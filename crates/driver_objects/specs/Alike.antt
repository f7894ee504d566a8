-- Kept objects that are the same, but for how many owners pixels and samples have.
use Rattle.std.specs.Prelude.{◌≡◌, ℕ, List, map, slice_get, slice_set, Some}
use Rattle.vd_plane.specs.declared.picture.Picture.{Picture}
use Rattle.driver_objects.specs.Listed.{with_content}
use Rattle.driver_objects.specs.Stored.{value_of}
use Rattle.driver_objects.specs.declared.content.Content.{Content}
use Rattle.driver_objects.specs.declared.content.Content.TheVariants as content
use Rattle.driver_objects.specs.declared.content.VideoSurface.{VideoSurface}
use Rattle.driver_objects.specs.declared.object.Object.{Object}
use Rattle.driver_objects.specs.declared.stored.Stored.{Stored}
use Rattle.driver_objects.specs.declared.stored.Stored.TheVariants.{Own}

-- the same samples or pixels, with one owner
abbrev pub owned : Content → Content
owned (content.Video of) = content.Video (record of { samples = Own (value_of of.samples) })
owned (content.Output of) = content.Output (record of { pixels = Own (value_of of.pixels) })
owned content = content

abbrev pub owned_by : Object → Object
owned_by object = with_content object (owned object.content)

-- The objects are the same, but for how many owners samples and pixels have.
abbrev pub AreAlike : List Object → List Object → Type 0
AreAlike these those = map owned_by these ≡ map owned_by those

-- The objects are the same, but for how many owners the samples of the video surface at this place have.
pub record SharesAt (old new : List Object) (index : ℕ) : Type 0 where
  pub object : Object
  pub there : slice_get old index ≡ Some object
  pub surface : VideoSurface
  pub has : object.content ≡ content.Video surface
  pub samples : Stored Picture
  pub same : value_of samples ≡ value_of surface.samples
  pub now : new ≡ slice_set old index (with_content object (content.Video (record surface { samples = samples })))
