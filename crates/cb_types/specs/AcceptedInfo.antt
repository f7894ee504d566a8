-- Which picture infos a decoder takes, field by field. The fields are numbered in the order in which they are looked at.
use Rattle.std.specs.Prelude.{◌≡◌, ℕ, ◌+◌, ◌^◌, ◌<◌, negsuc, pos, int_le, Bool, true, false, not, ◌&&◌, ◌||◌, ◌==◌, nat_le, nat_lt, if◌then◌else◌, List, [], ◌∷◌, slice_index_or}
use Rattle.std.specs.List.{list_all}
use Rattle.cb_types.specs.References.{is_absent, is_unused}
use Rattle.cb_types.specs.declared.picture_info.PictureInfo.{PictureInfo}
use Rattle.cb_types.specs.declared.picture_info.Reference.{Reference}
use Rattle.cb_types.specs.declared.picture_info.ScalingList4x4.{ScalingList4x4}

-- MaxFrameNum (H.264, 7.4.2.1.1)
abbrev pub max_frame_num : PictureInfo → ℕ
max_frame_num info = 2 ^ (info.log2_max_frame_num_minus4 + 4)

-- An entry for a reference: a whole frame, short-term with a frame_num or long-term with an index up to 15. An absent frame
-- is short-term.
abbrev pub is_reference_accepted : ℕ → Reference → Bool
is_reference_accepted frame_nums entry =
    is_unused entry || (entry.top_is_reference && entry.bottom_is_reference
    && (if entry.is_long_term then nat_le entry.frame_idx 15 && not (is_absent entry) else nat_lt entry.frame_idx frame_nums))

-- two references of one kind, short-term or long-term
abbrev pub is_same_kind : Reference → Reference → Bool
is_same_kind entry other = if entry.is_long_term then other.is_long_term else not other.is_long_term

-- Two entries for references don't name the same frame: neither by its surface, which absent frames don't have, nor by its
-- frame_num or index.
abbrev pub are_apart : Reference → Reference → Bool
are_apart entry other =
    is_unused entry || is_unused other
    || (not (is_same_kind entry other && entry.frame_idx == other.frame_idx)
    && (is_absent entry || not (entry.surface == other.surface)))

-- so of each entry and each later one
unfoldable pub are_all_apart : List Reference → Bool
are_all_apart [] = true
are_all_apart (entry ∷ later) = list_all (are_apart entry) later && are_all_apart later

-- whether the profile of this number takes infos with weighted_pred_flag: 0 is Constrained Baseline, 1 the same with explicit
-- weighted prediction in P slices
abbrev pub takes_weights : ℕ → Bool
takes_weights profile = profile == 1

-- Each weight is 16, as where no scaling list is sent (Flat_4x4_16, H.264, 7.4.2.1.1).
abbrev pub is_flat : ScalingList4x4 → Bool
is_flat list = list_all (λ weight. weight == 16) list.0

-- Each field, at its number, is one that a decoder of this profile with so many references takes. Field 0 is that number
-- of references itself.
abbrev pub accepted_fields : ℕ → ℕ → PictureInfo → List Bool
accepted_fields profile max_references info =
    (nat_le max_references 16)
    ∷ (not info.field_pic_flag)
    ∷ (not info.bottom_field_flag)
    ∷ (nat_le info.num_ref_frames max_references)
    ∷ (not info.mb_adaptive_frame_field_flag)
    ∷ (not info.weighted_pred_flag || takes_weights profile)
    ∷ (info.weighted_bipred_idc == 0)
    ∷ info.frame_mbs_only_flag
    ∷ (not info.transform_8x8_mode_flag)
    ∷ (not info.entropy_coding_mode_flag)
    ∷ (not info.redundant_pic_cnt_present_flag)
    ∷ (int_le (negsuc 11) info.chroma_qp_index_offset && int_le info.chroma_qp_index_offset (pos 12))
    ∷ (int_le (negsuc 25) info.pic_init_qp_minus26 && int_le info.pic_init_qp_minus26 (pos 25))
    ∷ (nat_le info.num_ref_idx_l0_active_minus1 15)
    ∷ (nat_le info.log2_max_frame_num_minus4 12)
    ∷ (nat_le info.pic_order_cnt_type 2)
    ∷ (nat_le info.log2_max_pic_order_cnt_lsb_minus4 12)
    ∷ (nat_lt info.frame_num (max_frame_num info))
    ∷ (list_all is_flat info.scaling_lists_4x4)
    ∷ (list_all (is_reference_accepted (max_frame_num info)) info.references && are_all_apart info.references)
    ∷ []

-- the field of this number is one that the decoder takes
abbrev pub IsFieldAccepted : ℕ → ℕ → PictureInfo → ℕ → Type 0
IsFieldAccepted profile max_references info field = slice_index_or (accepted_fields profile max_references info) field false ≡ true

-- the decoder takes this info: each of its fields
abbrev pub IsAccepted : ℕ → ℕ → PictureInfo → Type 0
IsAccepted profile max_references info = (field : ℕ) → field < 20 → IsFieldAccepted profile max_references info field

-- some decoder takes this info
abbrev pub IsAcceptedBySome : PictureInfo → Type 0
IsAcceptedBySome info = (profile : ℕ) × (max_references : ℕ) × IsAccepted profile max_references info

-- the first field that the decoder doesn't take
pub record IsFirstRefused (profile max_references : ℕ) (info : PictureInfo) (field : ℕ) : Type 0 where
  pub within : field < 20
  pub refused : slice_index_or (accepted_fields profile max_references info) field false ≡ false
  pub first : (earlier : ℕ) → earlier < field → IsFieldAccepted profile max_references info earlier
