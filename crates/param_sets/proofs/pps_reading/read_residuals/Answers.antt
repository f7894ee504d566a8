use Rattle.std.proofs.Common.{SFits, rules, to_z-of_z, w32}
use Rattle.std.proofs.lemmas.Result.{err_from_is_err_and}
use Rattle.param_sets.specs.Parts.{residuals}
use Rattle.element_tables.proofs.Tables.{gives_made, gives_stop, gives_then}
use Rattle.param_sets.proofs.pps_reading.read_residuals.Goals as goal

pub returns-in_err-weighted_pred_flag : goal.returns-in_err-weighted_pred_flag
unfolding residuals
returns-in_err-weighted_pred_flag c =
    let p = err_from_is_err_and c.from_residual.result c.from_residual.ensures.1 in
    rw (p.1, p.2) (gives_stop _ c.in_err-weighted_pred_flag.ensures)

pub returns-in_err-weighted_bipred_idc : goal.returns-in_err-weighted_bipred_idc
unfolding residuals
returns-in_err-weighted_bipred_idc c =
    let p = err_from_is_err_and c.from_residual-in_err-weighted_bipred_idc.result c.from_residual-in_err-weighted_bipred_idc.ensures.1 in
    rw (p.1, p.2) (gives_then _ c.in_ok-weighted_pred_flag.ensures (gives_stop _ c.in_err-weighted_bipred_idc.ensures))

pub returns-in_err-pic_init_qp_minus26 : goal.returns-in_err-pic_init_qp_minus26
unfolding residuals
returns-in_err-pic_init_qp_minus26 c =
    let p = err_from_is_err_and c.from_residual-in_err-pic_init_qp_minus26.result c.from_residual-in_err-pic_init_qp_minus26.ensures.1 in
    rw (p.1, p.2) (gives_then _ c.in_ok-weighted_pred_flag.ensures (gives_then _ c.in_ok-weighted_bipred_idc.ensures (gives_stop _ c.in_err-pic_init_qp_minus26.ensures)))

pub returns-in_err-pic_init_qs_minus26 : goal.returns-in_err-pic_init_qs_minus26
unfolding residuals
returns-in_err-pic_init_qs_minus26 c =
    let p = err_from_is_err_and c.from_residual-in_err-pic_init_qs_minus26.result c.from_residual-in_err-pic_init_qs_minus26.ensures.1 in
    rw (p.1, p.2) (gives_then _ c.in_ok-weighted_pred_flag.ensures (gives_then _ c.in_ok-weighted_bipred_idc.ensures (gives_then _ c.in_ok-pic_init_qp_minus26.ensures (gives_stop _ c.in_err-pic_init_qs_minus26.ensures))))

pub returns-in_err-chroma_qp_index_offset : goal.returns-in_err-chroma_qp_index_offset
unfolding residuals
returns-in_err-chroma_qp_index_offset c =
    let p = err_from_is_err_and c.from_residual-in_err-chroma_qp_index_offset.result c.from_residual-in_err-chroma_qp_index_offset.ensures.1 in
    rw (p.1, p.2) (gives_then _ c.in_ok-weighted_pred_flag.ensures (gives_then _ c.in_ok-weighted_bipred_idc.ensures (gives_then _ c.in_ok-pic_init_qp_minus26.ensures (gives_then _ c.in_ok-pic_init_qs_minus26.ensures (gives_stop _ c.in_err-chroma_qp_index_offset.ensures)))))

pub returns-in_err-deblocking_filter_control_present_flag : goal.returns-in_err-deblocking_filter_control_present_flag
unfolding residuals
returns-in_err-deblocking_filter_control_present_flag c =
    let p = err_from_is_err_and c.from_residual-in_err-deblocking_filter_control_present_flag.result c.from_residual-in_err-deblocking_filter_control_present_flag.ensures.1 in
    rw (p.1, p.2) (gives_then _ c.in_ok-weighted_pred_flag.ensures (gives_then _ c.in_ok-weighted_bipred_idc.ensures (gives_then _ c.in_ok-pic_init_qp_minus26.ensures (gives_then _ c.in_ok-pic_init_qs_minus26.ensures (gives_then _ c.in_ok-chroma_qp_index_offset.ensures (gives_stop _ c.in_err-deblocking_filter_control_present_flag.ensures))))))

pub returns-in_err-constrained_intra_pred_flag : goal.returns-in_err-constrained_intra_pred_flag
unfolding residuals
returns-in_err-constrained_intra_pred_flag c =
    let p = err_from_is_err_and c.from_residual-in_err-constrained_intra_pred_flag.result c.from_residual-in_err-constrained_intra_pred_flag.ensures.1 in
    rw (p.1, p.2) (gives_then _ c.in_ok-weighted_pred_flag.ensures (gives_then _ c.in_ok-weighted_bipred_idc.ensures (gives_then _ c.in_ok-pic_init_qp_minus26.ensures (gives_then _ c.in_ok-pic_init_qs_minus26.ensures (gives_then _ c.in_ok-chroma_qp_index_offset.ensures (gives_then _ c.in_ok-deblocking_filter_control_present_flag.ensures (gives_stop _ c.in_err-constrained_intra_pred_flag.ensures)))))))

pub returns-in_err-redundant_pic_cnt_present_flag : goal.returns-in_err-redundant_pic_cnt_present_flag
unfolding residuals
returns-in_err-redundant_pic_cnt_present_flag c =
    let p = err_from_is_err_and c.from_residual-in_err-redundant_pic_cnt_present_flag.result c.from_residual-in_err-redundant_pic_cnt_present_flag.ensures.1 in
    rw (p.1, p.2) (gives_then _ c.in_ok-weighted_pred_flag.ensures (gives_then _ c.in_ok-weighted_bipred_idc.ensures (gives_then _ c.in_ok-pic_init_qp_minus26.ensures (gives_then _ c.in_ok-pic_init_qs_minus26.ensures (gives_then _ c.in_ok-chroma_qp_index_offset.ensures (gives_then _ c.in_ok-deblocking_filter_control_present_flag.ensures (gives_then _ c.in_ok-constrained_intra_pred_flag.ensures (gives_stop _ c.in_err-redundant_pic_cnt_present_flag.ensures))))))))

pub returns : goal.returns
unfolding residuals
returns c =
    let fits-pic_init_qp_minus26 : SFits w32 c.in_ok-pic_init_qp_minus26.pic_init_qp_minus26 = search rules in
    let fits-pic_init_qs_minus26 : SFits w32 c.in_ok-pic_init_qs_minus26.pic_init_qs_minus26 = search rules in
    let fits-chroma_qp_index_offset : SFits w32 c.in_ok-chroma_qp_index_offset.chroma_qp_index_offset = search rules in
    rw (to_z-of_z fits-pic_init_qp_minus26, to_z-of_z fits-pic_init_qs_minus26, to_z-of_z fits-chroma_qp_index_offset) (gives_then _ c.in_ok-weighted_pred_flag.ensures (gives_then _ c.in_ok-weighted_bipred_idc.ensures (gives_then _ c.in_ok-pic_init_qp_minus26.ensures (gives_then _ c.in_ok-pic_init_qs_minus26.ensures (gives_then _ c.in_ok-chroma_qp_index_offset.ensures (gives_then _ c.in_ok-deblocking_filter_control_present_flag.ensures (gives_then _ c.in_ok-constrained_intra_pred_flag.ensures (gives_then _ c.in_ok-redundant_pic_cnt_present_flag.ensures (gives_made _ _)))))))))
