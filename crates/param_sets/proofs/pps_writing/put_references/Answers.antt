use Rattle.std.proofs.Common.{arith, false, refl}
use Rattle.std.proofs.lemmas.Result.{on_ok_weaker}
use Rattle.param_sets.specs.Parts.{references}
use Rattle.element_tables.proofs.OneElement.{flag_appended, ue_appended}
use Rattle.element_tables.proofs.Rules.{flag_is, only_is, up_to_is}
use Rattle.element_tables.proofs.Tables.{appends_made, appends_then}
use Rattle.param_sets.proofs.pps_writing.put_references.Goals as goal

pub returns : goal.returns
unfolding references
returns c =
    on_ok_weaker c.put_ue-5.result
    (λ e. appends_then _ (ue_appended _ c.args.pps.now.pic_parameter_set_id _ _ (omega (arith, c.requires.pic_parameter_set_id)) (up_to_is c.args.pps.now.pic_parameter_set_id 255 c.requires.pic_parameter_set_id) c.in_ok-put_ue.ensures.ok)
    (appends_then _ (ue_appended _ c.args.pps.now.seq_parameter_set_id _ _ (omega (arith, c.requires.seq_parameter_set_id)) (up_to_is c.args.pps.now.seq_parameter_set_id 31 c.requires.seq_parameter_set_id) c.in_ok-put_ue-2.ensures.ok)
    (appends_then _ (flag_appended _ c.args.pps.now.entropy_coding_mode_flag _ _ (flag_is false c.args.pps.now.entropy_coding_mode_flag c.requires.entropy_coding_mode_flag) c.in_ok-put_flag.ensures.ok)
    (appends_then _ (flag_appended _ c.args.pps.now.bottom_field_pic_order_in_frame_present_flag _ _ refl c.in_ok-put_flag-2.ensures.ok)
    (appends_then _ (ue_appended _ c.args.pps.now.num_slice_groups_minus1 _ _ (omega (arith, c.requires.num_slice_groups_minus1)) (only_is c.args.pps.now.num_slice_groups_minus1 0 c.requires.num_slice_groups_minus1) c.in_ok-put_ue-3.ensures.ok)
    (appends_then _ (ue_appended _ c.args.pps.now.num_ref_idx_l0_default_active_minus1 _ _ (omega (arith, c.requires.num_ref_idx_l0_default_active_minus1)) (up_to_is c.args.pps.now.num_ref_idx_l0_default_active_minus1 15 c.requires.num_ref_idx_l0_default_active_minus1) c.in_ok-put_ue-4.ensures.ok)
    (appends_then _ (ue_appended _ c.args.pps.now.num_ref_idx_l1_default_active_minus1 _ _ (omega (arith, c.requires.num_ref_idx_l1_default_active_minus1)) (up_to_is c.args.pps.now.num_ref_idx_l1_default_active_minus1 31 c.requires.num_ref_idx_l1_default_active_minus1) e)
    (appends_made _ _)))))))) c.put_ue-5.ensures.ok
