-- The driver of a buffer between two calls: nothing runs, and all that was made is there.
use Rattle.std.specs.Prelude.{◌≡◌, ℕ, ◌<◌, false, List, [], Some}
use Rattle.cb_types.specs.declared.size.SizeMbs.{SizeMbs}
use Rattle.handle_table.specs.Name.{kind_of}
use Rattle.vd_plane.specs.Picture.{HasSize}
use Rattle.vd_plane.specs.declared.picture.Picture.{Picture}
use Rattle.driver_model.specs.Objects.{Decoder, VideoSurface, as_decoder, as_video}
use Rattle.driver_model.specs.States.{Found, State, is_preempted, named}
use Rattle.driver_model.specs.declared.numbers.TheConstants.{CONSTRAINED_BASELINE, MAX_REFERENCES, VIDEO_SURFACE}
use Rattle.driver_core.specs.Stands.{Stands}
use Rattle.driver_core.specs.declared.driver.Core.{Core}
use Rattle.picture_buffer.specs.Renaming.{handle_of}

-- a decoder of this place and this device, for pictures of this size
abbrev pub decoder_at : (place device : ℕ) → SizeMbs → Found Decoder
decoder_at place device size =
    record { place = place; device = device; value = record { profile = CONSTRAINED_BASELINE; size = size; max_references = MAX_REFERENCES } }

-- a video surface of this place and this device, with this size and this picture
abbrev pub surface_at : (place device : ℕ) → SizeMbs → Picture → Found VideoSurface
surface_at place device size picture = record { place = place; device = device; value = record { size = size; picture = picture } }

-- The handle names such a surface.
pub record NamesSurface (d : State) (handle place device : ℕ) (size : SizeMbs) (picture : Picture) : Type 0 where
  pub names : named d as_video handle ≡ Some (surface_at place device size picture)
  pub kind : kind_of handle ≡ VIDEO_SURFACE
  pub sized : HasSize picture size

-- The core stands for a state without running jobs. A device there that isn't preempted has a decoder with this handle, and for each
-- number a surface of its own, with the number's picture.
pub record IsAtRest (core : Core) (decoder : ℕ) (surfaces : List ℕ) (size : SizeMbs) (pictures : ℕ → Picture) (d : State) : Type 0 where
  pub stands : Stands core d
  pub idle : d.notes ≡ []
  pub device : ℕ
  pub awake : is_preempted d device ≡ false
  pub decoder_place : ℕ
  pub decodes : named d as_decoder decoder ≡ Some (decoder_at decoder_place device size)
  pub place_of : ℕ → ℕ
  pub apart : (one other : ℕ) → one < 17 → other < 17 → place_of one ≡ place_of other → one ≡ other
  pub each : (number : ℕ) → number < 17 → NamesSurface d (handle_of surfaces number) (place_of number) device size (pictures number)
