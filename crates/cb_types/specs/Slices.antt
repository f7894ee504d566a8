-- What a slice header says of its slice. H.264, 7.4.3.
use Rattle.std.specs.Prelude.{ℕ, ◌+◌, ◌%◌, ◌==◌, Bool, unwrap_or}
use Rattle.cb_types.specs.declared.header.Header.{Header}
use Rattle.cb_types.specs.declared.picture_info.PictureInfo.{PictureInfo}

-- slice_type 0 and 5 are P, 2 and 7 are I
abbrev pub is_p : Header → Bool
is_p header = header.slice_type % 5 == 0

-- the slice of an IDR picture
abbrev pub is_idr : Header → Bool
is_idr header = header.head.unit_type == 5

-- num_ref_idx_l0_active_minus1 of the slice, plus 1: where the header doesn't override it, the picture parameter set has it
abbrev pub active_entries : PictureInfo → Header → ℕ
active_entries info header = unwrap_or header.active_override info.num_ref_idx_l0_active_minus1 + 1
