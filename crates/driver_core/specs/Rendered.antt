-- What a render finds among the kept objects. No public clause cites this module.
use Rattle.std.specs.Prelude.{◌≡◌, ℕ, ◌+◌, ◌<◌, List, [], ◌∷◌, length, slice_get, slice_index_or, Option, Some, None, Ok, Err}
use Rattle.cb_types.specs.declared.picture_info.Reference.{Reference}
use Rattle.recon.specs.References.{no_reference}
use Rattle.vd_status.specs.declared.refusal.Refusal.{Refusal}
use Rattle.driver_model.specs.Objects as model
use Rattle.driver_model.specs.Refusals.{Looked, further_handle}
use Rattle.driver_model.specs.Renders as renders
use Rattle.driver_model.specs.Renders.{reference, references, render, rendering}
use Rattle.driver_model.specs.States.{Found, State, content_at, named}
use Rattle.driver_objects.specs.Contents.{HasVideo}
use Rattle.driver_objects.specs.Kept.{kept_of}
use Rattle.driver_objects.specs.declared.content.Content.TheVariants as content
use Rattle.driver_objects.specs.declared.content.Decoder.{Decoder}
use Rattle.driver_objects.specs.declared.content.VideoSurface.{VideoSurface}
use Rattle.driver_objects.specs.declared.object.Object.{Object}
use Rattle.driver_objects.specs.declared.references.Rendering.{Rendering}
use Rattle.driver_core.specs.Stands.{IsContent, Stands, is_owed}
use Rattle.driver_core.specs.declared.driver.Core.{Core}

-- ---- the surfaces

-- the video surface at this place of the kept objects is the one that was found in the state
pub record IsSeen (core : Core) (d : State) (index : ℕ) (found : Found model.VideoSurface) : Type 0 where
  pub object : Object
  pub there : slice_get (kept_of core.objects) index ≡ Some object
  pub at_place : object.place ≡ found.place
  pub surface : VideoSurface
  pub has : object.content ≡ content.Video surface
  pub is : IsContent core.queues (is_owed d object.place) (model.VideoObject found.value) (content.Video surface)
  pub stands : content_at d model.as_video found.place ≡ Some found.value

-- so of an entry for a reference, for which there may be none
abbrev pub IsSeenIf : Core → State → Option ℕ → Option (Found model.VideoSurface) → Type 0
IsSeenIf core d None None = Unit {0}
IsSeenIf core d (Some index) (Some found) = IsSeen core d index found
IsSeenIf core d _ _ = ⊥

-- and of each entry
unfoldable pub AreSeen : Core → State → List (Option ℕ) → List (Option (Found model.VideoSurface)) → Type 0
AreSeen core d [] [] = Unit {0}
AreSeen core d (index ∷ indices) (found ∷ later) = IsSeenIf core d index found × AreSeen core d indices later
AreSeen core d _ _ = ⊥

-- The handle of this number names the video surface at this place of the kept objects, which is of this device.
abbrev pub SeesSurface : Core → (arg name device index : ℕ) → Type 0
SeesSurface core arg name device index =
    (d : State) → Stands core d
    → (found : Found model.VideoSurface) × (further_handle arg device (named d model.as_video name) ≡ Ok found) × IsSeen core d index found

abbrev pub RefusesSurface : Core → (arg name device : ℕ) → Refusal → Type 0
RefusesSurface core arg name device refusal = (d : State) → Stands core d → further_handle arg device (named d model.as_video name) ≡ Err refusal

-- An entry for a reference, whose handle has this number, names the video surface at this place, or needs none.
pub record SeesEntry (core : Core) (device arg : ℕ) (entry : Reference) (slot : Option ℕ) : Type 0 where
  pub video : (index : ℕ) → slot ≡ Some index → HasVideo (kept_of core.objects) index
  pub sees : (d : State) → Stands core d → (found : Option (Found model.VideoSurface)) × (reference d device arg entry ≡ Ok found) × IsSeenIf core d slot found

abbrev pub RefusesEntry : Core → (device arg : ℕ) → Reference → Refusal → Type 0
RefusesEntry core device arg entry refusal = (d : State) → Stands core d → reference d device arg entry ≡ Err refusal

-- so the first entries of an info, whose handles have the numbers from 2 on
abbrev pub SeesEntries : Core → (device : ℕ) → List Reference → (count : ℕ) → List (Option ℕ) → Type 0
SeesEntries core device entries count slots =
    (place : ℕ) → place < count → SeesEntry core device (2 + place) (slice_index_or entries place no_reference) (slice_index_or slots place None)

abbrev pub RefusesEntries : Core → (device : ℕ) → List Reference → Refusal → Type 0
RefusesEntries core device entries refusal = (d : State) → Stands core d → references d device 2 entries ≡ Err refusal

-- ---- the whole

abbrev pub decoder_of : Decoder → model.Decoder
decoder_of decoder = record { profile = decoder.profile; size = decoder.size; max_references = decoder.max_references }

-- the decoder, the target and the references are those that were found in the state
pub record IsRendering (core : Core) (d : State) (on : Rendering) (found : renders.Rendering) : Type 0 where
  pub decoder : found.decoder.value ≡ decoder_of on.decoder
  pub target : IsSeen core d on.target found.target
  pub references : AreSeen core d on.references found.references

-- so in each state for which the core stands
abbrev pub Sees : Core → (State → Looked renders.Rendering) → Rendering → Type 0
Sees core looked on = (d : State) → Stands core d → (found : renders.Rendering) × (looked d ≡ Ok found) × IsRendering core d on found

-- or the look refuses there
abbrev pub RefusesLook : Core → (State → Looked renders.Rendering) → Refusal → Type 0
RefusesLook core looked refusal = (d : State) → Stands core d → looked d ≡ Err refusal

-- each is a video surface
pub record AreVideos (kept : List Object) (on : Rendering) : Type 0 where
  pub target : HasVideo kept on.target
  pub count : length on.references ≡ 16
  pub references : (place index : ℕ) → place < 16 → slice_index_or on.references place None ≡ Some index → HasVideo kept index
