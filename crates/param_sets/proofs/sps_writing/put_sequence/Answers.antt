use Rattle.std.proofs.Common.{false, refl}
use Rattle.std.proofs.lemmas.Result.{on_ok_weaker}
use Rattle.param_sets.proofs.Grouped.{appends_sps, grouped_sps}
use Rattle.element_tables.proofs.OneElement.{flag_appended}
use Rattle.element_tables.proofs.Tables.{appends_made, appends_then}
use Rattle.param_sets.proofs.sps_writing.put_sequence.Goals as goal

pub returns : goal.returns
unfolding grouped_sps
returns c = on_ok_weaker c.put_flag.result
    (λ e. appends_sps _ _ _ (appends_then _ c.in_ok-put_start.ensures (appends_then _ c.in_ok-put_lsb_length.ensures (appends_then _ c.in_ok-put_cycle.ensures
    (appends_then _ c.in_ok-put_frames.ensures (appends_then _ c.in_ok-put_cropping.ensures
    (appends_then _ (flag_appended _ false _ _ refl e) (appends_made _ _))))))))
    c.put_flag.ensures.ok
