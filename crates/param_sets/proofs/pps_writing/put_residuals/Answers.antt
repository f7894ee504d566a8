use Rattle.std.proofs.Common.{SFits, arith, false, refl, rules, to_z-of_z, w32}
use Rattle.std.proofs.lemmas.Int.{ints}
use Rattle.std.proofs.lemmas.Result.{on_ok_weaker}
use Rattle.param_sets.specs.Parts.{residuals}
use Rattle.element_tables.proofs.OneElement.{flag_appended, se_appended, u_appended}
use Rattle.element_tables.proofs.Rules.{between_fits, flag_is, only_is}
use Rattle.element_tables.proofs.Tables.{appends_made, appends_then}
use Rattle.param_sets.proofs.pps_writing.put_residuals.Goals as goal

pub returns : goal.returns
unfolding residuals
returns c =
    let fits-pic_init_qp_minus26 : SFits w32 c.args.pps.now.pic_init_qp_minus26 = search rules in
    let fits-pic_init_qs_minus26 : SFits w32 c.args.pps.now.pic_init_qs_minus26 = search rules in
    let fits-chroma_qp_index_offset : SFits w32 c.args.pps.now.chroma_qp_index_offset = search rules in
    on_ok_weaker c.put_flag-4.result
    (λ e. appends_then _ (flag_appended _ c.args.pps.now.weighted_pred_flag _ _ (flag_is false c.args.pps.now.weighted_pred_flag c.requires.weighted_pred_flag) c.in_ok-put_flag.ensures.ok)
    (appends_then _ (u_appended _ _ c.args.pps.now.weighted_bipred_idc _ _ (omega (arith, c.requires.weighted_bipred_idc)) (only_is c.args.pps.now.weighted_bipred_idc 0 c.requires.weighted_bipred_idc) c.in_ok-put_u.ensures.ok)
    (appends_then _ (se_appended _ c.args.pps.now.pic_init_qp_minus26 _ _ (omega (arith, ints, c.requires.qp_least, c.requires.qp_most)) (between_fits _ _ c.args.pps.now.pic_init_qp_minus26 c.requires.qp_least c.requires.qp_most) (rw (to_z-of_z fits-pic_init_qp_minus26) at c.in_ok-put_se.ensures.ok))
    (appends_then _ (se_appended _ c.args.pps.now.pic_init_qs_minus26 _ _ c.requires.pic_init_qs_minus26 refl (rw (to_z-of_z fits-pic_init_qs_minus26) at c.in_ok-put_se-2.ensures.ok))
    (appends_then _ (se_appended _ c.args.pps.now.chroma_qp_index_offset _ _ (omega (arith, ints, c.requires.chroma_least, c.requires.chroma_most)) (between_fits _ _ c.args.pps.now.chroma_qp_index_offset c.requires.chroma_least c.requires.chroma_most) (rw (to_z-of_z fits-chroma_qp_index_offset) at c.in_ok-put_se-3.ensures.ok))
    (appends_then _ (flag_appended _ c.args.pps.now.deblocking_filter_control_present_flag _ _ refl c.in_ok-put_flag-2.ensures.ok)
    (appends_then _ (flag_appended _ c.args.pps.now.constrained_intra_pred_flag _ _ refl c.in_ok-put_flag-3.ensures.ok)
    (appends_then _ (flag_appended _ c.args.pps.now.redundant_pic_cnt_present_flag _ _ (flag_is false c.args.pps.now.redundant_pic_cnt_present_flag c.requires.redundant_pic_cnt_present_flag) e)
    (appends_made _ _))))))))) c.put_flag-4.ensures.ok
