-- What is read lies in the ranges of an accepted picture set.
use Rattle.std.proofs.Common.{◌≡◌, ◌≤◌, pos, negsuc, ◌≤ℤ◌, Bool, false, List, subst}
use Rattle.bit_io.specs.Codewords.{IsSe}
use Rattle.param_sets.specs.Accepted.{IsAcceptedPps}
use Rattle.param_sets.specs.Parts.{references, residuals}
use Rattle.param_sets.specs.Pps.{pic_parameter_set_data}
use Rattle.element_tables.specs.Syntax.{Takes, any, between, only, only_flag, up_to}
use Rattle.param_sets.specs.declared.pps.Pps.{Pps}
use Rattle.param_sets.specs.declared.pps_parts.References.{References}
use Rattle.param_sets.specs.declared.pps_parts.Residuals.{Residuals}
use Rattle.param_sets.proofs.Grouped.{grouped_pps, takes_pps}
use Rattle.element_tables.proofs.OneElement.{flag_range, se_range, u_range, ue_range}
use Rattle.element_tables.proofs.Rules.{flag_one, between_ends, only_one, up_to_most}
use Rattle.element_tables.proofs.Tables.{made_is, takes_parts}

pub record InReferences (r : References) : Type 0 where
  pub pic_parameter_set_id : r.pic_parameter_set_id ≤ 255
  pub seq_parameter_set_id : r.seq_parameter_set_id ≤ 31
  pub entropy_coding_mode_flag : r.entropy_coding_mode_flag ≡ false
  pub num_slice_groups_minus1 : r.num_slice_groups_minus1 ≡ 0
  pub l0 : r.num_ref_idx_l0_default_active_minus1 ≤ 15
  pub l1 : r.num_ref_idx_l1_default_active_minus1 ≤ 31

references_range : (whole : List Bool) (s : References) (rest : List Bool) → Takes references whole s rest → InReferences s
unfolding references
references_range whole s rest h =
    let a = takes_parts _ h in
    let b = takes_parts _ a.3 in
    let c = takes_parts _ b.3 in
    let d = takes_parts _ c.3 in
    let e = takes_parts _ d.3 in
    let f = takes_parts _ e.3 in
    let g = takes_parts _ f.3 in
    subst InReferences (made_is g.3) (record {
      pic_parameter_set_id = up_to_most a.0 255 (ue_range (up_to 255) a.2.front a.0 a.2.spelled).1;
      seq_parameter_set_id = up_to_most b.0 31 (ue_range (up_to 31) b.2.front b.0 b.2.spelled).1;
      entropy_coding_mode_flag = flag_one false c.0 (flag_range (only_flag false) c.2.front c.0 c.2.spelled);
      num_slice_groups_minus1 = only_one e.0 0 (ue_range (only 0) e.2.front e.0 e.2.spelled).1;
      l0 = up_to_most f.0 15 (ue_range (up_to 15) f.2.front f.0 f.2.spelled).1;
      l1 = up_to_most g.0 31 (ue_range (up_to 31) g.2.front g.0 g.2.spelled).1;
    })

pub record InResiduals (r : Residuals) : Type 0 where
  pub weighted_pred_flag : r.weighted_pred_flag ≡ false
  pub weighted_bipred_idc : r.weighted_bipred_idc ≡ 0
  pub qp : (negsuc 25 ≤ℤ r.pic_init_qp_minus26) × (r.pic_init_qp_minus26 ≤ℤ pos 25)
  pub qs : IsSe r.pic_init_qs_minus26
  pub chroma : (negsuc 11 ≤ℤ r.chroma_qp_index_offset) × (r.chroma_qp_index_offset ≤ℤ pos 12)
  pub redundant_pic_cnt_present_flag : r.redundant_pic_cnt_present_flag ≡ false

residuals_range : (whole : List Bool) (s : Residuals) (rest : List Bool) → Takes residuals whole s rest → InResiduals s
unfolding residuals
residuals_range whole s rest h =
    let a = takes_parts _ h in
    let b = takes_parts _ a.3 in
    let c = takes_parts _ b.3 in
    let d = takes_parts _ c.3 in
    let e = takes_parts _ d.3 in
    let f = takes_parts _ e.3 in
    let g = takes_parts _ f.3 in
    let i = takes_parts _ g.3 in
    subst InResiduals (made_is i.3) (record {
      weighted_pred_flag = flag_one false a.0 (flag_range (only_flag false) a.2.front a.0 a.2.spelled);
      weighted_bipred_idc = only_one b.0 0 (u_range 2 (only 0) b.2.front b.0 b.2.spelled).1;
      qp = between_ends (negsuc 25) (pos 25) c.0 (se_range (between (negsuc 25) (pos 25)) c.2.front c.0 c.2.spelled).1;
      qs = (se_range any d.2.front d.0 d.2.spelled).0;
      chroma = between_ends (negsuc 11) (pos 12) e.0 (se_range (between (negsuc 11) (pos 12)) e.2.front e.0 e.2.spelled).1;
      redundant_pic_cnt_present_flag = flag_one false i.0 (flag_range (only_flag false) i.2.front i.0 i.2.spelled);
    })

in_groups : (whole : List Bool) (p : Pps) (rest : List Bool) → Takes grouped_pps whole p rest → IsAcceptedPps p
unfolding grouped_pps
in_groups whole p rest h =
    let a = takes_parts _ h in
    let b = takes_parts _ a.3 in
    let first = references_range whole a.0 a.1 a.2 in
    let second = residuals_range a.1 b.0 b.1 b.2 in
    subst IsAcceptedPps (made_is b.3) (record {
      pic_parameter_set_id = first.pic_parameter_set_id;
      seq_parameter_set_id = first.seq_parameter_set_id;
      entropy_coding_mode_flag = first.entropy_coding_mode_flag;
      num_slice_groups_minus1 = first.num_slice_groups_minus1;
      num_ref_idx_l0_default_active_minus1 = first.l0;
      num_ref_idx_l1_default_active_minus1 = first.l1;
      weighted_pred_flag = second.weighted_pred_flag;
      weighted_bipred_idc = second.weighted_bipred_idc;
      qp_least = second.qp.0;
      qp_most = second.qp.1;
      pic_init_qs_minus26 = second.qs;
      chroma_least = second.chroma.0;
      chroma_most = second.chroma.1;
      redundant_pic_cnt_present_flag = second.redundant_pic_cnt_present_flag;
    })

pub pps_accepted : (whole : List Bool) (p : Pps) (rest : List Bool) → Takes pic_parameter_set_data whole p rest → IsAcceptedPps p
pps_accepted whole p rest h = in_groups whole p rest (takes_pps whole p rest h)
