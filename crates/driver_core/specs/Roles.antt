-- What content has to be like that is written over an object's. No public clause cites this module.
use Rattle.std.specs.Prelude.{◌≡◌, ℕ, ◌<◌, ◌≤◌, Bool, true, false, List, length, slice_get, Option, Some, None}
use Rattle.std.specs.List.{list_any}
use Rattle.cb_types.specs.SizeMbs.{IsWithinLimits}
use Rattle.vd_plane.specs.Picture.{HasSize}
use Rattle.driver_model.specs.Sizes.{is_profile, is_rgba_format, pixel_bytes}
use Rattle.driver_objects.specs.Contents.{HasContent}
use Rattle.driver_objects.specs.Kinds.{has_number, holder_of, is_device, is_device_at, kind_number, number_of}
use Rattle.driver_objects.specs.Stored.{value_of}
use Rattle.driver_objects.specs.declared.content.Content.{Content}
use Rattle.driver_objects.specs.declared.content.Content.TheVariants as content
use Rattle.driver_objects.specs.declared.content.Decoder.{Decoder}
use Rattle.driver_objects.specs.declared.content.OutputSurface.{OutputSurface}
use Rattle.driver_objects.specs.declared.content.VideoMixer.{VideoMixer}
use Rattle.driver_objects.specs.declared.content.VideoSurface.{VideoSurface}
use Rattle.driver_objects.specs.declared.object.Object.{Object}

-- the new content is of the old one's kind, and has its place among the queues
pub record SameRole (old new : Content) : Type 0 where
  pub kind : kind_number new ≡ kind_number old
  pub device : is_device new ≡ is_device old
  pub holder : holder_of new ≡ holder_of old
  pub number : number_of new ≡ number_of old

-- its sizes are within the limits, and what is stored fits them
pub record Fits (what : Content) : Type 0 where
  pub video : (surface : VideoSurface) → what ≡ content.Video surface → IsWithinLimits surface.size × HasSize (value_of surface.samples) surface.size
  pub output : (surface : OutputSurface) → what ≡ content.Output surface
      → IsWithinLimits surface.size × (length (value_of surface.pixels).items ≡ pixel_bytes surface.size) × (is_rgba_format surface.format ≡ true)
  pub decoder : (decoder : Decoder) → what ≡ content.Decoder decoder → IsWithinLimits decoder.size × (decoder.max_references ≤ 16) × (is_profile decoder.profile ≡ true)
  pub mixer : (mixer : VideoMixer) → what ≡ content.Mixer mixer → IsWithinLimits mixer.size

-- the object at this place of the list is live, and of the kind
pub record IsLiveAt (is_kind : Content → Bool) (kept : List Object) (index : ℕ) : Type 0 where
  pub object : Object
  pub there : slice_get kept index ≡ Some object
  pub live : object.is_live ≡ true
  pub of_kind : is_kind object.content ≡ true

-- what is there may be written over with this
abbrev pub MayWrite : List Object → ℕ → Content → Type 0
MayWrite kept index what = (old : Content) × HasContent kept index old × SameRole old what × Fits what

-- An object with this content may be made on this device, or, being a device, on its own.
pub record MayAdd (kept : List Object) (kind : ℕ) (device : Option ℕ) (what : Content) : Type 0 where
  pub of_kind : kind_number what ≡ kind
  pub fits : Fits what
  pub device_live : (place : ℕ) → device ≡ Some place → list_any (is_device_at place) kept ≡ true
  pub device_own : device ≡ None → is_device what ≡ true
  pub own_device : is_device what ≡ true → device ≡ None
  -- it has a number and a holder that no other has
  pub number : (number : ℕ) → number_of what ≡ Some number → (number < 64) × (list_any (has_number number) kept ≡ false)
  pub holder : (holder : ℕ) → holder_of what ≡ Some holder
      → (holder < 5184) × ((i : ℕ) (object : Object) → slice_get kept i ≡ Some object → holder_of object.content ≡ Some holder → ⊥)

-- The object at this place of the list is live, and nothing that is kept leans on it: it is no device, no surface that a queue may name,
-- and no queue.
pub record MayDestroy (kept : List Object) (index : ℕ) : Type 0 where
  pub object : Object
  pub there : slice_get kept index ≡ Some object
  pub live : object.is_live ≡ true
  pub device : is_device object.content ≡ false
  pub holder : holder_of object.content ≡ None
  pub number : number_of object.content ≡ None
