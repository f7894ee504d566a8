use Rattle.std.proofs.lemmas.Result.{err_from_is_err_and}
use Rattle.param_sets.specs.Parts.{start}
use Rattle.element_tables.proofs.Tables.{gives_made, gives_stop, gives_then}
use Rattle.param_sets.proofs.sps_reading.read_start.Goals as goal

pub returns-in_err-profile_idc : goal.returns-in_err-profile_idc
unfolding start
returns-in_err-profile_idc c =
    let p = err_from_is_err_and c.from_residual.result c.from_residual.ensures.1 in
    rw (p.1, p.2) (gives_stop _ c.in_err-profile_idc.ensures)

pub returns-in_err-constraints : goal.returns-in_err-constraints
unfolding start
returns-in_err-constraints c =
    let p = err_from_is_err_and c.from_residual-in_err-constraints.result c.from_residual-in_err-constraints.ensures.1 in
    rw (p.1, p.2) (gives_then _ c.in_ok-profile_idc.ensures (gives_stop _ c.in_err-constraints.ensures))

pub returns-in_err-level_idc : goal.returns-in_err-level_idc
unfolding start
returns-in_err-level_idc c =
    let p = err_from_is_err_and c.from_residual-in_err-level_idc.result c.from_residual-in_err-level_idc.ensures.1 in
    rw (p.1, p.2) (gives_then _ c.in_ok-profile_idc.ensures (gives_then _ c.in_ok-constraints.ensures (gives_stop _ c.in_err-level_idc.ensures)))

pub returns-in_err-seq_parameter_set_id : goal.returns-in_err-seq_parameter_set_id
unfolding start
returns-in_err-seq_parameter_set_id c =
    let p = err_from_is_err_and c.from_residual-in_err-seq_parameter_set_id.result c.from_residual-in_err-seq_parameter_set_id.ensures.1 in
    rw (p.1, p.2) (gives_then _ c.in_ok-profile_idc.ensures (gives_then _ c.in_ok-constraints.ensures (gives_then _ c.in_ok-level_idc.ensures (gives_stop _ c.in_err-seq_parameter_set_id.ensures))))

pub returns-in_err-log2_max_frame_num_minus4 : goal.returns-in_err-log2_max_frame_num_minus4
unfolding start
returns-in_err-log2_max_frame_num_minus4 c =
    let p = err_from_is_err_and c.from_residual-in_err-log2_max_frame_num_minus4.result c.from_residual-in_err-log2_max_frame_num_minus4.ensures.1 in
    rw (p.1, p.2) (gives_then _ c.in_ok-profile_idc.ensures (gives_then _ c.in_ok-constraints.ensures (gives_then _ c.in_ok-level_idc.ensures (gives_then _ c.in_ok-seq_parameter_set_id.ensures (gives_stop _ c.in_err-log2_max_frame_num_minus4.ensures)))))

pub returns-in_err-pic_order_cnt_type : goal.returns-in_err-pic_order_cnt_type
unfolding start
returns-in_err-pic_order_cnt_type c =
    let p = err_from_is_err_and c.from_residual-in_err-pic_order_cnt_type.result c.from_residual-in_err-pic_order_cnt_type.ensures.1 in
    rw (p.1, p.2) (gives_then _ c.in_ok-profile_idc.ensures (gives_then _ c.in_ok-constraints.ensures (gives_then _ c.in_ok-level_idc.ensures (gives_then _ c.in_ok-seq_parameter_set_id.ensures (gives_then _ c.in_ok-log2_max_frame_num_minus4.ensures (gives_stop _ c.in_err-pic_order_cnt_type.ensures))))))

pub returns : goal.returns
unfolding start
returns c =
    gives_then _ c.in_ok-profile_idc.ensures (gives_then _ c.in_ok-constraints.ensures (gives_then _ c.in_ok-level_idc.ensures (gives_then _ c.in_ok-seq_parameter_set_id.ensures (gives_then _ c.in_ok-log2_max_frame_num_minus4.ensures (gives_then _ c.in_ok-pic_order_cnt_type.ensures (gives_made _ _))))))
