-- The picture info by which slice headers are read. H.264, 7.3.3: what their elements depend on is in the parameter sets.
use Rattle.std.specs.Prelude.{[], ◌∷◌, replicate, pos, None, false}
use Rattle.cb_types.specs.declared.header.EntryWeights.{EntryWeights}
use Rattle.cb_types.specs.declared.header.Header.{Header}
use Rattle.cb_types.specs.declared.header.ListEdit.TheVariants.{Subtract}
use Rattle.cb_types.specs.declared.header.Marking.TheVariants.{Absent}
use Rattle.cb_types.specs.declared.picture_info.PictureInfo.{PictureInfo}
use Rattle.param_sets.specs.declared.pps.Pps.{Pps}
use Rattle.param_sets.specs.declared.sps.Sps.{Sps}
use Rattle.marking.specs.Begun.{info_of, unused}

abbrev pub no_entry : EntryWeights
no_entry = record { luma = None; chroma = None }

-- a header of which nothing is known
abbrev pub no_header : Header
no_header = record {
  head = record { ref_idc = 0; unit_type = 0 };
  first_mb = 0;
  slice_type = 0;
  pps = 0;
  frame_num = 0;
  idr_pic_id = 0;
  poc_lsb = 0;
  delta_bottom = pos 0;
  delta_poc = pos 0 ∷ pos 0 ∷ [];
  active_override = None;
  edited = false;
  edit_count = 0;
  edits = replicate 16 (Subtract 0);
  weights = record { luma_denom = 0; chroma_denom = 0; entries = replicate 16 no_entry };
  marking = Absent;
  qp_delta = pos 0;
  deblock_idc = 0;
  alpha_half = pos 0;
  beta_half = pos 0;
}

-- the info of a picture with these sets, of which nothing else is known
abbrev pub header_info : Sps → Pps → PictureInfo
header_info sps pps = info_of sps pps no_header (record { top = pos 0; bottom = pos 0 }) (replicate 16 unused)
