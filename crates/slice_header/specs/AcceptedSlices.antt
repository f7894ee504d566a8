-- Which slices a picture can have, one behind the other. H.264, 7.4.1.2.4, 7.4.1.2.5 and 7.4.3.
use Rattle.std.specs.Prelude.{◌≡◌, ◌≢◌, ℕ, ◌⊎◌, ◌↔◌, IsFalse, IsTrue}
use Rattle.cb_types.specs.Slices.{is_idr, is_p}
use Rattle.cb_types.specs.declared.header.Header.{Header}
use Rattle.cb_types.specs.declared.picture_info.PictureInfo.{PictureInfo}

-- a slice of an IDR picture
pub record IsIdrSlice (header : Header) : Type 0 where
  pub intra : IsFalse (is_p header)
  pub frame_num : header.frame_num ≡ 0
  pub reference : header.head.ref_idc ≢ 0

-- The header fits the info of its picture, the header of the picture's first slice, and the number of macroblocks that the
-- slices before it cover.
pub record IsAcceptedSlice (info : PictureInfo) (first : Header) (covered : ℕ) (header : Header) : Type 0 where
  pub frame_num : header.frame_num ≡ info.frame_num
  pub reference : IsTrue info.is_reference ↔ (header.head.ref_idc ≢ 0)
  pub unit_type : (header.head.unit_type ≡ 1) ⊎ (header.head.unit_type ≡ 5)
  pub idr : IsTrue (is_idr header) → IsIdrSlice header
  pub alike : header.head.unit_type ≡ first.head.unit_type
  pub pps : header.pps ≡ first.pps
  pub first_mb : header.first_mb ≡ covered
