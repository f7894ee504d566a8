use Rattle.std.proofs.Common.{SFits, arith, refl, rules, to_z-of_z, w32}
use Rattle.std.proofs.lemmas.Result.{on_ok_weaker}
use Rattle.param_sets.specs.Sps.{cycle}
use Rattle.element_tables.proofs.OneElement.{flag_appended, se_appended, ue_appended}
use Rattle.element_tables.proofs.Rules.{up_to_is}
use Rattle.element_tables.proofs.Tables.{appends_made, appends_then}
use Rattle.param_sets.proofs.sps_writing.put_present_cycle.Goals as goal

pub returns : goal.returns
unfolding cycle
returns c =
    let fits-offset_for_non_ref_pic : SFits w32 c.args.sps.now.offset_for_non_ref_pic = search rules in
    let fits-offset_for_top_to_bottom_field : SFits w32 c.args.sps.now.offset_for_top_to_bottom_field = search rules in
    on_ok_weaker c.put_offsets.result
    (λ e. appends_then _ (flag_appended _ c.args.sps.now.delta_pic_order_always_zero_flag _ _ refl c.in_ok-put_flag.ensures.ok)
    (appends_then _ (se_appended _ c.args.sps.now.offset_for_non_ref_pic _ _ c.requires.offset_for_non_ref_pic refl (rw (to_z-of_z fits-offset_for_non_ref_pic) at c.in_ok-put_se.ensures.ok))
    (appends_then _ (se_appended _ c.args.sps.now.offset_for_top_to_bottom_field _ _ c.requires.offset_for_top_to_bottom_field refl (rw (to_z-of_z fits-offset_for_top_to_bottom_field) at c.in_ok-put_se-2.ensures.ok))
    (appends_then _ (ue_appended _ c.args.sps.now.num_ref_frames_in_pic_order_cnt_cycle _ _ (omega (arith, c.requires.offset_for_ref_frame.most)) (up_to_is c.args.sps.now.num_ref_frames_in_pic_order_cnt_cycle 255 c.requires.offset_for_ref_frame.most) c.in_ok-put_ue.ensures.ok)
    (appends_then _ e
    (appends_made _ _)))))) c.put_offsets.ensures
