use Rattle.std.proofs.lemmas.Result.{err_from_is_err_and}
use Rattle.param_sets.specs.Parts.{references}
use Rattle.element_tables.proofs.Tables.{gives_made, gives_stop, gives_then}
use Rattle.param_sets.proofs.pps_reading.read_references.Goals as goal

pub returns-in_err-pic_parameter_set_id : goal.returns-in_err-pic_parameter_set_id
unfolding references
returns-in_err-pic_parameter_set_id c =
    let p = err_from_is_err_and c.from_residual.result c.from_residual.ensures.1 in
    rw (p.1, p.2) (gives_stop _ c.in_err-pic_parameter_set_id.ensures)

pub returns-in_err-seq_parameter_set_id : goal.returns-in_err-seq_parameter_set_id
unfolding references
returns-in_err-seq_parameter_set_id c =
    let p = err_from_is_err_and c.from_residual-in_err-seq_parameter_set_id.result c.from_residual-in_err-seq_parameter_set_id.ensures.1 in
    rw (p.1, p.2) (gives_then _ c.in_ok-pic_parameter_set_id.ensures (gives_stop _ c.in_err-seq_parameter_set_id.ensures))

pub returns-in_err-entropy_coding_mode_flag : goal.returns-in_err-entropy_coding_mode_flag
unfolding references
returns-in_err-entropy_coding_mode_flag c =
    let p = err_from_is_err_and c.from_residual-in_err-entropy_coding_mode_flag.result c.from_residual-in_err-entropy_coding_mode_flag.ensures.1 in
    rw (p.1, p.2) (gives_then _ c.in_ok-pic_parameter_set_id.ensures (gives_then _ c.in_ok-seq_parameter_set_id.ensures (gives_stop _ c.in_err-entropy_coding_mode_flag.ensures)))

pub returns-in_err-bottom_field_pic_order_in_frame_present_flag : goal.returns-in_err-bottom_field_pic_order_in_frame_present_flag
unfolding references
returns-in_err-bottom_field_pic_order_in_frame_present_flag c =
    let p = err_from_is_err_and c.from_residual-in_err-bottom_field_pic_order_in_frame_present_flag.result c.from_residual-in_err-bottom_field_pic_order_in_frame_present_flag.ensures.1 in
    rw (p.1, p.2) (gives_then _ c.in_ok-pic_parameter_set_id.ensures (gives_then _ c.in_ok-seq_parameter_set_id.ensures (gives_then _ c.in_ok-entropy_coding_mode_flag.ensures (gives_stop _ c.in_err-bottom_field_pic_order_in_frame_present_flag.ensures))))

pub returns-in_err-num_slice_groups_minus1 : goal.returns-in_err-num_slice_groups_minus1
unfolding references
returns-in_err-num_slice_groups_minus1 c =
    let p = err_from_is_err_and c.from_residual-in_err-num_slice_groups_minus1.result c.from_residual-in_err-num_slice_groups_minus1.ensures.1 in
    rw (p.1, p.2) (gives_then _ c.in_ok-pic_parameter_set_id.ensures (gives_then _ c.in_ok-seq_parameter_set_id.ensures (gives_then _ c.in_ok-entropy_coding_mode_flag.ensures (gives_then _ c.in_ok-bottom_field_pic_order_in_frame_present_flag.ensures (gives_stop _ c.in_err-num_slice_groups_minus1.ensures)))))

pub returns-in_err-num_ref_idx_l0_default_active_minus1 : goal.returns-in_err-num_ref_idx_l0_default_active_minus1
unfolding references
returns-in_err-num_ref_idx_l0_default_active_minus1 c =
    let p = err_from_is_err_and c.from_residual-in_err-num_ref_idx_l0_default_active_minus1.result c.from_residual-in_err-num_ref_idx_l0_default_active_minus1.ensures.1 in
    rw (p.1, p.2) (gives_then _ c.in_ok-pic_parameter_set_id.ensures (gives_then _ c.in_ok-seq_parameter_set_id.ensures (gives_then _ c.in_ok-entropy_coding_mode_flag.ensures (gives_then _ c.in_ok-bottom_field_pic_order_in_frame_present_flag.ensures (gives_then _ c.in_ok-num_slice_groups_minus1.ensures (gives_stop _ c.in_err-num_ref_idx_l0_default_active_minus1.ensures))))))

pub returns-in_err-num_ref_idx_l1_default_active_minus1 : goal.returns-in_err-num_ref_idx_l1_default_active_minus1
unfolding references
returns-in_err-num_ref_idx_l1_default_active_minus1 c =
    let p = err_from_is_err_and c.from_residual-in_err-num_ref_idx_l1_default_active_minus1.result c.from_residual-in_err-num_ref_idx_l1_default_active_minus1.ensures.1 in
    rw (p.1, p.2) (gives_then _ c.in_ok-pic_parameter_set_id.ensures (gives_then _ c.in_ok-seq_parameter_set_id.ensures (gives_then _ c.in_ok-entropy_coding_mode_flag.ensures (gives_then _ c.in_ok-bottom_field_pic_order_in_frame_present_flag.ensures (gives_then _ c.in_ok-num_slice_groups_minus1.ensures (gives_then _ c.in_ok-num_ref_idx_l0_default_active_minus1.ensures (gives_stop _ c.in_err-num_ref_idx_l1_default_active_minus1.ensures)))))))

pub returns : goal.returns
unfolding references
returns c =
    gives_then _ c.in_ok-pic_parameter_set_id.ensures (gives_then _ c.in_ok-seq_parameter_set_id.ensures (gives_then _ c.in_ok-entropy_coding_mode_flag.ensures (gives_then _ c.in_ok-bottom_field_pic_order_in_frame_present_flag.ensures (gives_then _ c.in_ok-num_slice_groups_minus1.ensures (gives_then _ c.in_ok-num_ref_idx_l0_default_active_minus1.ensures (gives_then _ c.in_ok-num_ref_idx_l1_default_active_minus1.ensures (gives_made _ _)))))))
