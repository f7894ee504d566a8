-- References by the names of the surfaces that have their pictures.
use Rattle.std.specs.Prelude.{ℕ, ◌+◌, nat_lt, ◌||◌, if◌then◌else◌, map, slice_index_or, Option, Some, None}
use Rattle.cb_types.specs.References.{is_absent, is_unused}
use Rattle.cb_types.specs.declared.picture_info.PictureInfo.{PictureInfo}
use Rattle.cb_types.specs.declared.picture_info.Reference.{Reference}
use Rattle.decoder_render.specs.Renamed.{with_references, with_surface}
use Rattle.stream_task.specs.Surfaces.{surface_of}
use Rattle.stream_task.specs.declared.objects.Made.{Made}
use Rattle.stream_task.specs.declared.objects.Objects.{Objects}
use Rattle.stream_task.specs.declared.slots.Slots.{Slots}

-- the object's name, or the other one where there is none
abbrev pub name_else : ℕ → Option Made → ℕ
name_else other None = other
name_else other (Some made) = made.name

-- the name of the surface of an own number, or the other one
abbrev pub name_or : Slots → Objects → (other number : ℕ) → ℕ
name_or slots objects other number =
    if nat_lt number 17 then name_else other (slice_index_or objects.made (2 + surface_of slots number) None) else other

-- the entry with the name that stands for its number
abbrev pub renamed_entry : (ℕ → ℕ) → Reference → Reference
renamed_entry names entry = if is_unused entry || is_absent entry then entry else with_surface entry (names entry.surface)

abbrev pub renamed_to : (ℕ → ℕ) → PictureInfo → PictureInfo
renamed_to names info = with_references info (map (renamed_entry names) info.references)
