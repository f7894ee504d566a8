use Rattle.std.proofs.lemmas.Result.{err_from_is_err_and}
use Rattle.param_sets.proofs.Grouped.{grouped_sps, gives_sps}
use Rattle.element_tables.proofs.Tables.{gives_made, gives_stop, gives_then}
use Rattle.param_sets.proofs.sps_reading.read_sequence.Goals as goal

pub returns-in_err-start : goal.returns-in_err-start
unfolding grouped_sps
returns-in_err-start c =
    let p = err_from_is_err_and c.from_residual.result c.from_residual.ensures.1 in
    rw (p.1, p.2) (gives_sps _ _ _ (gives_stop _ c.in_err-start.ensures))

pub returns-in_err-lsb_length : goal.returns-in_err-lsb_length
unfolding grouped_sps
returns-in_err-lsb_length c =
    let p = err_from_is_err_and c.from_residual-in_err-lsb_length.result c.from_residual-in_err-lsb_length.ensures.1 in
    rw (p.1, p.2) (gives_sps _ _ _ (gives_then _ c.in_ok-start.ensures (gives_stop _ c.in_err-lsb_length.ensures)))

pub returns-in_err-cycle : goal.returns-in_err-cycle
unfolding grouped_sps
returns-in_err-cycle c =
    let p = err_from_is_err_and c.from_residual-in_err-cycle.result c.from_residual-in_err-cycle.ensures.1 in
    rw (p.1, p.2) (gives_sps _ _ _ (gives_then _ c.in_ok-start.ensures (gives_then _ c.in_ok-lsb_length.ensures (gives_stop _ c.in_err-cycle.ensures))))

pub returns-in_err-frames : goal.returns-in_err-frames
unfolding grouped_sps
returns-in_err-frames c =
    let p = err_from_is_err_and c.from_residual-in_err-frames.result c.from_residual-in_err-frames.ensures.1 in
    rw (p.1, p.2) (gives_sps _ _ _ (gives_then _ c.in_ok-start.ensures (gives_then _ c.in_ok-lsb_length.ensures (gives_then _ c.in_ok-cycle.ensures (gives_stop _ c.in_err-frames.ensures)))))

pub returns-in_err-crop : goal.returns-in_err-crop
unfolding grouped_sps
returns-in_err-crop c =
    let p = err_from_is_err_and c.from_residual-in_err-crop.result c.from_residual-in_err-crop.ensures.1 in
    rw (p.1, p.2) (gives_sps _ _ _ (gives_then _ c.in_ok-start.ensures (gives_then _ c.in_ok-lsb_length.ensures (gives_then _ c.in_ok-cycle.ensures (gives_then _ c.in_ok-frames.ensures (gives_stop _ c.in_err-crop.ensures))))))

pub returns-in_err-vui_parameters_present_flag : goal.returns-in_err-vui_parameters_present_flag
unfolding grouped_sps
returns-in_err-vui_parameters_present_flag c =
    let p = err_from_is_err_and c.from_residual-in_err-vui_parameters_present_flag.result c.from_residual-in_err-vui_parameters_present_flag.ensures.1 in
    rw (p.1, p.2) (gives_sps _ _ _ (gives_then _ c.in_ok-start.ensures (gives_then _ c.in_ok-lsb_length.ensures (gives_then _ c.in_ok-cycle.ensures (gives_then _ c.in_ok-frames.ensures (gives_then _ c.in_ok-crop.ensures (gives_stop _ c.in_err-vui_parameters_present_flag.ensures)))))))

pub returns : goal.returns
unfolding grouped_sps
returns c =
    rw c.assembled-sps.ensures (gives_sps _ _ _ (gives_then _ c.in_ok-start.ensures (gives_then _ c.in_ok-lsb_length.ensures (gives_then _ c.in_ok-cycle.ensures (gives_then _ c.in_ok-frames.ensures (gives_then _ c.in_ok-crop.ensures (gives_then _ c.in_ok-vui_parameters_present_flag.ensures (gives_made _ _))))))))
