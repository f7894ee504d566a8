-- References by numbers, and by the handles of the numbers' surfaces.
use Rattle.std.specs.Prelude.{◌≡◌, ◌≢◌, ℕ, ◌<◌, false, ◌||◌, if◌then◌else◌, List, map, slice_index_or, Option, Some, None}
use Rattle.cb_types.specs.References.{is_absent, is_unused}
use Rattle.cb_types.specs.declared.picture_info.PictureInfo.{PictureInfo}
use Rattle.cb_types.specs.declared.picture_info.Reference.{Reference}
use Rattle.decoder_render.specs.Renamed.{with_references, with_surface}
use Rattle.vd_plane.specs.declared.picture.Picture.{Picture}

-- An entry that is used, and isn't an absent frame, names a number.
abbrev pub HasNumber : Reference → Type 0
HasNumber entry = is_unused entry ≡ false → is_absent entry ≡ false → entry.surface < 17

-- and it is another number than this one
abbrev pub IsOther : ℕ → Reference → Type 0
IsOther number entry = is_unused entry ≡ false → is_absent entry ≡ false → (entry.surface < 17) × (entry.surface ≢ number)

-- the handle of the surface of a number
abbrev pub handle_of : List ℕ → ℕ → ℕ
handle_of surfaces number = slice_index_or surfaces number 0

-- the entry with its surface's handle in place of the number
abbrev pub renamed_entry : List ℕ → Reference → Reference
renamed_entry surfaces entry = if is_unused entry || is_absent entry then entry else with_surface entry (handle_of surfaces entry.surface)

abbrev pub renamed : List ℕ → PictureInfo → PictureInfo
renamed surfaces info = with_references info (map (renamed_entry surfaces) info.references)

-- the picture that an entry names; an unused entry and an absent frame name none
abbrev pub picture_of : (ℕ → Picture) → Reference → Option Picture
picture_of pictures entry = if is_unused entry || is_absent entry then None else Some (pictures entry.surface)
