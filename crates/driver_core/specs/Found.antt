-- What a look at a handle of a known kind finds.
use Rattle.std.specs.Prelude.{◌≡◌, ℕ, List, length, slice_get, Option, Some, Ok, Err}
use Rattle.bits_io.specs.ByteOrder.{byte_count}
use Rattle.vd_status.specs.declared.refusal.Refusal.{Refusal}
use Rattle.driver_model.specs.Objects as model
use Rattle.driver_model.specs.Refusals.{in_use}
use Rattle.driver_model.specs.States.{Found, State, named}
use Rattle.driver_objects.specs.Contents.{HasContent}
use Rattle.driver_objects.specs.Kept.{kept_of}
use Rattle.driver_objects.specs.Stored.{value_of}
use Rattle.driver_objects.specs.declared.content.Content.{Content}
use Rattle.driver_objects.specs.declared.content.Content.TheVariants as content
use Rattle.driver_objects.specs.declared.content.OutputSurface.{OutputSurface}
use Rattle.driver_objects.specs.declared.content.VideoSurface.{VideoSurface}
use Rattle.driver_objects.specs.declared.object.Object.{Object}
use Rattle.driver_core.specs.Stands.{IsContent, Stands, is_owed}
use Rattle.driver_core.specs.declared.driver.Core.{Core}

module _ {T : Type 0} (as_kind : model.Content → Option T) (of : T → model.Content) (core : Core) (arg name : ℕ) where
  -- The object at this place of the kept ones has this content, and is the one that the handle names in the state.
  pub record IsFound (d : State) (index : ℕ) (what : Content) : Type 0 where
    pub object : Object
    pub there : slice_get (kept_of core.objects) index ≡ Some object
    pub has : object.content ≡ what
    pub value : T
    pub is : IsContent core.queues (is_owed d object.place) (of value) what
    pub looks : in_use d arg (named d as_kind name) ≡ Ok (record { place = object.place; device = object.device; value = value })

  -- so in each state for which the core stands
  abbrev pub Finds : ℕ → Content → Type 0
  Finds index what = (d : State) → Stands core d → IsFound d index what

  -- so of what is at the place
  abbrev pub FindsAt : ℕ → Type 0
  FindsAt index = (what : Content) → HasContent (kept_of core.objects) index what → Finds index what

  -- The handle is refused in each such state.
  abbrev pub Refuses : Refusal → Type 0
  Refuses refusal = (d : State) → Stands core d → in_use d arg (named d as_kind name) ≡ Err refusal

-- The first handle of a call names the device with this place among all objects ever made.
abbrev pub IsOn : Core → (name place : ℕ) → Type 0
IsOn core name place =
    (d : State) → Stands core d
    → (on : Found model.Device) × (in_use d 0 (named d model.as_device name) ≡ Ok on) × (on.place ≡ place)

-- So many bytes are the samples of the video surface at this place of the kept objects.
abbrev pub HasBytes : List Object → (count index : ℕ) → Type 0
HasBytes kept count index = (surface : VideoSurface) → HasContent kept index (content.Video surface) → count ≡ byte_count (value_of surface.samples)

-- So many bytes are the pixels of the output surface at this place of the kept objects.
abbrev pub HasPixels : List Object → (count index : ℕ) → Type 0
HasPixels kept count index = (surface : OutputSurface) → HasContent kept index (content.Output surface) → count ≡ length (value_of surface.pixels).items
