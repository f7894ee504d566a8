use Rattle.std.proofs.Common.{arith, refl}
use Rattle.std.proofs.lemmas.Result.{on_ok_weaker}
use Rattle.param_sets.specs.Parts.{start}
use Rattle.element_tables.proofs.OneElement.{u_appended, ue_appended}
use Rattle.element_tables.proofs.Rules.{only_is, up_to_is}
use Rattle.element_tables.proofs.Tables.{appends_made, appends_then}
use Rattle.param_sets.proofs.sps_writing.put_start.Goals as goal

pub returns : goal.returns
unfolding start
returns c =
    on_ok_weaker c.put_ue-3.result
    (λ e. appends_then _ (u_appended _ _ c.args.sps.now.profile_idc _ _ (omega (arith, c.requires.profile_idc)) (only_is c.args.sps.now.profile_idc 66 c.requires.profile_idc) c.in_ok-put_u.ensures.ok)
    (appends_then _ (u_appended _ _ c.args.sps.now.constraints.0 _ _ c.requires.constraints refl (rw c.from.ensures at c.in_ok-put_u-2.ensures.ok))
    (appends_then _ (u_appended _ _ c.args.sps.now.level_idc _ _ c.requires.level_idc refl c.in_ok-put_u-3.ensures.ok)
    (appends_then _ (ue_appended _ c.args.sps.now.seq_parameter_set_id _ _ (omega (arith, c.requires.seq_parameter_set_id)) (up_to_is c.args.sps.now.seq_parameter_set_id 31 c.requires.seq_parameter_set_id) c.in_ok-put_ue.ensures.ok)
    (appends_then _ (ue_appended _ c.args.sps.now.log2_max_frame_num_minus4 _ _ (omega (arith, c.requires.log2_max_frame_num_minus4)) (up_to_is c.args.sps.now.log2_max_frame_num_minus4 12 c.requires.log2_max_frame_num_minus4) c.in_ok-put_ue-2.ensures.ok)
    (appends_then _ (ue_appended _ c.args.sps.now.pic_order_cnt_type _ _ (omega (arith, c.requires.pic_order_cnt_type)) (up_to_is c.args.sps.now.pic_order_cnt_type 2 c.requires.pic_order_cnt_type) e)
    (appends_made _ _))))))) c.put_ue-3.ensures.ok
