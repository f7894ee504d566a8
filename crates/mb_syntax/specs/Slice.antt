-- What the spelling of a macroblock depends on beside itself: its slice, and the macroblocks of it before.
use Rattle.std.specs.Prelude.{ℕ, ◌+◌, ◌-◌, nat_le, if◌then◌else◌, List, length, slice_get, Option, Some, None}
use Rattle.cb_types.specs.Neighbours.{neighbour_a, neighbour_b}
use Rattle.cb_types.specs.SizeMbs.{macroblocks}
use Rattle.cb_types.specs.Slices.{active_entries, is_p}
use Rattle.cb_types.specs.declared.header.Header.{Header}
use Rattle.cb_types.specs.declared.macroblock.Macroblock.{Macroblock}
use Rattle.cb_types.specs.declared.picture_info.PictureInfo.{PictureInfo}
use Rattle.cb_types.specs.declared.size.SizeMbs.{SizeMbs}
use Rattle.mb_syntax.specs.declared.slice.Slice.{Slice}

abbrev pub slice_of : PictureInfo → Header → SizeMbs → Slice
slice_of info header size = record {
  first = header.first_mb;
  width = size.width;
  left = macroblocks size - header.first_mb;
  is_p = is_p header;
  active = active_entries info header;
}

-- the address of the macroblock behind these of the slice
abbrev pub address : Slice → List Macroblock → ℕ
address slice before = slice.first + length before

-- a neighbour, where it is available: the macroblock of this address among those before, if it is of the slice
unfoldable pub of_slice : Slice → List Macroblock → Option ℕ → Option Macroblock
of_slice slice before None = None
of_slice slice before (Some address) = if nat_le slice.first address then slice_get before (address - slice.first) else None

-- the neighbours A and B of the macroblock behind these (H.264, 6.4.9)
abbrev pub left_of : Slice → List Macroblock → Option Macroblock
left_of slice before = of_slice slice before (neighbour_a slice.width (address slice before))

abbrev pub above : Slice → List Macroblock → Option Macroblock
above slice before = of_slice slice before (neighbour_b slice.width (address slice before))
