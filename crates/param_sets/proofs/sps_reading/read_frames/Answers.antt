use Rattle.std.proofs.lemmas.Result.{err_from_is_err_and}
use Rattle.param_sets.specs.Parts.{frames}
use Rattle.element_tables.proofs.Tables.{gives_made, gives_stop, gives_then}
use Rattle.param_sets.proofs.sps_reading.read_frames.Goals as goal

pub returns-in_err-max_num_ref_frames : goal.returns-in_err-max_num_ref_frames
unfolding frames
returns-in_err-max_num_ref_frames c =
    let p = err_from_is_err_and c.from_residual.result c.from_residual.ensures.1 in
    rw (p.1, p.2) (gives_stop _ c.in_err-max_num_ref_frames.ensures)

pub returns-in_err-gaps_in_frame_num_value_allowed_flag : goal.returns-in_err-gaps_in_frame_num_value_allowed_flag
unfolding frames
returns-in_err-gaps_in_frame_num_value_allowed_flag c =
    let p = err_from_is_err_and c.from_residual-in_err-gaps_in_frame_num_value_allowed_flag.result c.from_residual-in_err-gaps_in_frame_num_value_allowed_flag.ensures.1 in
    rw (p.1, p.2) (gives_then _ c.in_ok-max_num_ref_frames.ensures (gives_stop _ c.in_err-gaps_in_frame_num_value_allowed_flag.ensures))

pub returns-in_err-pic_width_in_mbs_minus1 : goal.returns-in_err-pic_width_in_mbs_minus1
unfolding frames
returns-in_err-pic_width_in_mbs_minus1 c =
    let p = err_from_is_err_and c.from_residual-in_err-pic_width_in_mbs_minus1.result c.from_residual-in_err-pic_width_in_mbs_minus1.ensures.1 in
    rw (p.1, p.2) (gives_then _ c.in_ok-max_num_ref_frames.ensures (gives_then _ c.in_ok-gaps_in_frame_num_value_allowed_flag.ensures (gives_stop _ c.in_err-pic_width_in_mbs_minus1.ensures)))

pub returns-in_err-pic_height_in_map_units_minus1 : goal.returns-in_err-pic_height_in_map_units_minus1
unfolding frames
returns-in_err-pic_height_in_map_units_minus1 c =
    let p = err_from_is_err_and c.from_residual-in_err-pic_height_in_map_units_minus1.result c.from_residual-in_err-pic_height_in_map_units_minus1.ensures.1 in
    rw (p.1, p.2) (gives_then _ c.in_ok-max_num_ref_frames.ensures (gives_then _ c.in_ok-gaps_in_frame_num_value_allowed_flag.ensures (gives_then _ c.in_ok-pic_width_in_mbs_minus1.ensures (gives_stop _ c.in_err-pic_height_in_map_units_minus1.ensures))))

pub returns-in_err-frame_mbs_only_flag : goal.returns-in_err-frame_mbs_only_flag
unfolding frames
returns-in_err-frame_mbs_only_flag c =
    let p = err_from_is_err_and c.from_residual-in_err-frame_mbs_only_flag.result c.from_residual-in_err-frame_mbs_only_flag.ensures.1 in
    rw (p.1, p.2) (gives_then _ c.in_ok-max_num_ref_frames.ensures (gives_then _ c.in_ok-gaps_in_frame_num_value_allowed_flag.ensures (gives_then _ c.in_ok-pic_width_in_mbs_minus1.ensures (gives_then _ c.in_ok-pic_height_in_map_units_minus1.ensures (gives_stop _ c.in_err-frame_mbs_only_flag.ensures)))))

pub returns-in_err-direct_8x8_inference_flag : goal.returns-in_err-direct_8x8_inference_flag
unfolding frames
returns-in_err-direct_8x8_inference_flag c =
    let p = err_from_is_err_and c.from_residual-in_err-direct_8x8_inference_flag.result c.from_residual-in_err-direct_8x8_inference_flag.ensures.1 in
    rw (p.1, p.2) (gives_then _ c.in_ok-max_num_ref_frames.ensures (gives_then _ c.in_ok-gaps_in_frame_num_value_allowed_flag.ensures (gives_then _ c.in_ok-pic_width_in_mbs_minus1.ensures (gives_then _ c.in_ok-pic_height_in_map_units_minus1.ensures (gives_then _ c.in_ok-frame_mbs_only_flag.ensures (gives_stop _ c.in_err-direct_8x8_inference_flag.ensures))))))

pub returns-in_err-frame_cropping_flag : goal.returns-in_err-frame_cropping_flag
unfolding frames
returns-in_err-frame_cropping_flag c =
    let p = err_from_is_err_and c.from_residual-in_err-frame_cropping_flag.result c.from_residual-in_err-frame_cropping_flag.ensures.1 in
    rw (p.1, p.2) (gives_then _ c.in_ok-max_num_ref_frames.ensures (gives_then _ c.in_ok-gaps_in_frame_num_value_allowed_flag.ensures (gives_then _ c.in_ok-pic_width_in_mbs_minus1.ensures (gives_then _ c.in_ok-pic_height_in_map_units_minus1.ensures (gives_then _ c.in_ok-frame_mbs_only_flag.ensures (gives_then _ c.in_ok-direct_8x8_inference_flag.ensures (gives_stop _ c.in_err-frame_cropping_flag.ensures)))))))

pub returns : goal.returns
unfolding frames
returns c =
    gives_then _ c.in_ok-max_num_ref_frames.ensures (gives_then _ c.in_ok-gaps_in_frame_num_value_allowed_flag.ensures (gives_then _ c.in_ok-pic_width_in_mbs_minus1.ensures (gives_then _ c.in_ok-pic_height_in_map_units_minus1.ensures (gives_then _ c.in_ok-frame_mbs_only_flag.ensures (gives_then _ c.in_ok-direct_8x8_inference_flag.ensures (gives_then _ c.in_ok-frame_cropping_flag.ensures (gives_made _ _)))))))
