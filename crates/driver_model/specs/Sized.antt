-- What the objects in the state of a legal history have, by their sizes and kinds.
use Rattle.std.specs.Prelude.{◌≡◌, ℕ, ◌≤◌, true, List, length, slice_get, Some, ℤ, ⊤}
use Rattle.std.specs.List.{AllByRecursion}
use Rattle.vd_plane.specs.Picture.{HasSize}
use Rattle.driver_model.specs.Objects.{Content, VideoObject, OutputObject, DecoderObject, MixerObject, Object}
use Rattle.driver_model.specs.Sizes.{is_profile, is_rgba_format, pixel_bytes}
use Rattle.driver_model.specs.declared.calls.Call.TheVariants.{MixerSetMatrix}
use Rattle.driver_model.specs.declared.items.Entry.{Entry}
use Rattle.driver_model.specs.declared.items.Item.{Item}
use Rattle.driver_model.specs.declared.items.Item.TheVariants.{Called}
use Rattle.driver_model.specs.declared.numbers.TheConstants.{MAX_REFERENCES}

-- A video surface's picture has the surface's size; an output surface has the bytes of its pixels in one of the two formats; a decoder
-- has one of the two profiles, and few references.
abbrev pub IsSized : Content → Type 0
IsSized (VideoObject surface) = HasSize surface.picture surface.size
IsSized (OutputObject surface) = (is_rgba_format surface.format ≡ true) × (length surface.bytes ≡ pixel_bytes surface.size)
IsSized (DecoderObject decoder) = (is_profile decoder.profile ≡ true) × (decoder.max_references ≤ MAX_REFERENCES)
IsSized _ = ⊤

abbrev pub AreSized : List Object → Type 0
AreSized objects = AllByRecursion (λ object. IsSized object.content) objects

-- the matrix from Y, Cb and Cr has three rows of four numbers
abbrev pub IsWholeMatrix : List ℤ → Type 0
IsWholeMatrix matrix = length matrix ≡ 12

-- so has each that the history's calls give to a mixer
abbrev pub SetsWholeMatrices : List Item → Type 0
SetsWholeMatrices history =
    (place : ℕ) (entry : Entry) (mixer : ℕ) (matrix : List ℤ)
    → slice_get history place ≡ Some (Called entry)
    → entry.call ≡ MixerSetMatrix mixer matrix
    → IsWholeMatrix matrix

-- and each mixer's
abbrev pub HasWholeMatrix : Content → Type 0
HasWholeMatrix (MixerObject mixer) = IsWholeMatrix mixer.matrix
HasWholeMatrix _ = ⊤

abbrev pub HaveWholeMatrices : List Object → Type 0
HaveWholeMatrices objects = AllByRecursion (λ object. HasWholeMatrix object.content) objects
