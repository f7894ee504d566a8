-- The pictures that a slice refers to. H.264, 8.4.2.1.
use Rattle.std.specs.Prelude.{◌≡◌, ℕ, ◌<◌, Bool, true, false, not, is_some, if◌then◌else◌, List, [], slice_index_or, Option, Some, None, map}
use Rattle.std.specs.Arc.{arc_value}
use Rattle.std.specs.Option.{option_and_then, option_map}
use Rattle.cb_types.specs.References.{is_absent, is_unused}
use Rattle.cb_types.specs.declared.picture_info.PictureInfo.{PictureInfo}
use Rattle.cb_types.specs.declared.picture_info.Reference.{Reference}
use Rattle.vd_plane.specs.SampleArray.{SampleArray, array_of}
use Rattle.vd_plane.specs.declared.picture.Picture.{Picture}
use Rattle.recon.specs.declared.references.Refs.{Refs}

-- the pictures by their places in the info's references
abbrev pub pictures_of : Refs → List (Option Picture)
pictures_of refs = map (λ held. option_map arc_value held) refs.pictures

abbrev pub no_reference : Reference
no_reference = record { surface = 0; is_long_term = false; top_is_reference = false; bottom_is_reference = false; field_order_cnt = []; frame_idx = 0 }

abbrev pub reference_at : PictureInfo → ℕ → Reference
reference_at info place = slice_index_or info.references place no_reference

-- the place of an entry of the list
abbrev pub place_of : List (Option ℕ) → ℕ → Option ℕ
place_of list entry = slice_index_or list entry None

-- nothing is at an entry of the list, or an absent frame, or its picture isn't given
abbrev pub is_place_lacking : PictureInfo → List (Option Picture) → Option ℕ → Bool
is_place_lacking info pictures None = true
is_place_lacking info pictures (Some place) = if is_absent (reference_at info place) then true else not (is_some (slice_index_or pictures place None))

abbrev pub is_lacking : PictureInfo → List (Option ℕ) → List (Option Picture) → ℕ → Bool
is_lacking info list pictures entry = is_place_lacking info pictures (place_of list entry)

-- the picture of an entry
abbrev pub picture_of : List (Option ℕ) → List (Option Picture) → ℕ → Option Picture
picture_of list pictures entry = option_and_then (λ place. slice_index_or pictures place None) (place_of list entry)

abbrev pub no_samples : SampleArray
no_samples = array_of 0 0 []

-- its three planes
abbrev pub y_of : Option Picture → SampleArray
y_of (Some picture) = picture.y
y_of None = no_samples

abbrev pub cb_of : Option Picture → SampleArray
cb_of (Some picture) = picture.cb
cb_of None = no_samples

abbrev pub cr_of : Option Picture → SampleArray
cr_of (Some picture) = picture.cr
cr_of None = no_samples

-- Each entry of the list that isn't missing is the place of an entry of the info that is used.
abbrev pub ArePlaces : PictureInfo → List (Option ℕ) → Type 0
ArePlaces info list = (entry place : ℕ) → place_of list entry ≡ Some place → (place < 16) × (is_unused (reference_at info place) ≡ false)
