use Rattle.element_tables.specs.Syntax.{up_to}
use Rattle.element_tables.proofs.OneElement.{ue_range}
use Rattle.element_tables.proofs.Rules.{up_to_most}
use Rattle.std.proofs.Common.{SFits, rules, to_z-of_z, w32}
use Rattle.std.proofs.lemmas.Result.{err_from_is_err_and}
use Rattle.param_sets.specs.Sps.{cycle}
use Rattle.element_tables.proofs.Tables.{gives_made, gives_stop, gives_then}
use Rattle.param_sets.proofs.sps_reading.read_present_cycle.Goals as goal

pub returns-in_err-delta_pic_order_always_zero_flag : goal.returns-in_err-delta_pic_order_always_zero_flag
unfolding cycle
returns-in_err-delta_pic_order_always_zero_flag c =
    let p = err_from_is_err_and c.from_residual.result c.from_residual.ensures.1 in
    rw (p.1, p.2) (gives_stop _ c.in_err-delta_pic_order_always_zero_flag.ensures)

pub returns-in_err-offset_for_non_ref_pic : goal.returns-in_err-offset_for_non_ref_pic
unfolding cycle
returns-in_err-offset_for_non_ref_pic c =
    let p = err_from_is_err_and c.from_residual-in_err-offset_for_non_ref_pic.result c.from_residual-in_err-offset_for_non_ref_pic.ensures.1 in
    rw (p.1, p.2) (gives_then _ c.in_ok-delta_pic_order_always_zero_flag.ensures (gives_stop _ c.in_err-offset_for_non_ref_pic.ensures))

pub returns-in_err-offset_for_top_to_bottom_field : goal.returns-in_err-offset_for_top_to_bottom_field
unfolding cycle
returns-in_err-offset_for_top_to_bottom_field c =
    let p = err_from_is_err_and c.from_residual-in_err-offset_for_top_to_bottom_field.result c.from_residual-in_err-offset_for_top_to_bottom_field.ensures.1 in
    rw (p.1, p.2) (gives_then _ c.in_ok-delta_pic_order_always_zero_flag.ensures (gives_then _ c.in_ok-offset_for_non_ref_pic.ensures (gives_stop _ c.in_err-offset_for_top_to_bottom_field.ensures)))

pub returns-in_err-num_ref_frames_in_pic_order_cnt_cycle : goal.returns-in_err-num_ref_frames_in_pic_order_cnt_cycle
unfolding cycle
returns-in_err-num_ref_frames_in_pic_order_cnt_cycle c =
    let p = err_from_is_err_and c.from_residual-in_err-num_ref_frames_in_pic_order_cnt_cycle.result c.from_residual-in_err-num_ref_frames_in_pic_order_cnt_cycle.ensures.1 in
    rw (p.1, p.2) (gives_then _ c.in_ok-delta_pic_order_always_zero_flag.ensures (gives_then _ c.in_ok-offset_for_non_ref_pic.ensures (gives_then _ c.in_ok-offset_for_top_to_bottom_field.ensures (gives_stop _ c.in_err-num_ref_frames_in_pic_order_cnt_cycle.ensures))))

pub returns-in_err-offset_for_ref_frame : goal.returns-in_err-offset_for_ref_frame
unfolding cycle
returns-in_err-offset_for_ref_frame c =
    let p = err_from_is_err_and c.from_residual-in_err-offset_for_ref_frame.result c.from_residual-in_err-offset_for_ref_frame.ensures.1 in
    rw (p.1, p.2) (gives_then _ c.in_ok-delta_pic_order_always_zero_flag.ensures (gives_then _ c.in_ok-offset_for_non_ref_pic.ensures (gives_then _ c.in_ok-offset_for_top_to_bottom_field.ensures (gives_then _ c.in_ok-num_ref_frames_in_pic_order_cnt_cycle.ensures (gives_stop _ c.in_err-offset_for_ref_frame.ensures)))))

pub read_offsets-requires : goal.read_offsets-requires
read_offsets-requires c =
    let read = c.in_ok-num_ref_frames_in_pic_order_cnt_cycle.ensures.answer in
    let v = c.in_ok-num_ref_frames_in_pic_order_cnt_cycle.num_ref_frames_in_pic_order_cnt_cycle in
    up_to_most v 255 (ue_range (up_to 255) read.front v read.spelled).1

pub returns : goal.returns
unfolding cycle
returns c =
    let fits-offset_for_non_ref_pic : SFits w32 c.in_ok-offset_for_non_ref_pic.offset_for_non_ref_pic = search rules in
    let fits-offset_for_top_to_bottom_field : SFits w32 c.in_ok-offset_for_top_to_bottom_field.offset_for_top_to_bottom_field = search rules in
    rw (to_z-of_z fits-offset_for_non_ref_pic, to_z-of_z fits-offset_for_top_to_bottom_field) (gives_then _ c.in_ok-delta_pic_order_always_zero_flag.ensures (gives_then _ c.in_ok-offset_for_non_ref_pic.ensures (gives_then _ c.in_ok-offset_for_top_to_bottom_field.ensures (gives_then _ c.in_ok-num_ref_frames_in_pic_order_cnt_cycle.ensures (gives_then _ c.in_ok-offset_for_ref_frame.ensures (gives_made _ _))))))
