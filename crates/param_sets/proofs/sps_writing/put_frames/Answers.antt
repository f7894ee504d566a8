use Rattle.std.proofs.Common.{arith, refl, true}
use Rattle.std.proofs.lemmas.Result.{on_ok_weaker}
use Rattle.param_sets.specs.Parts.{frames}
use Rattle.element_tables.proofs.OneElement.{flag_appended, ue_appended}
use Rattle.element_tables.proofs.Rules.{flag_is, up_to_is}
use Rattle.element_tables.proofs.Tables.{appends_made, appends_then}
use Rattle.param_sets.proofs.sps_writing.put_frames.Goals as goal

pub returns : goal.returns
unfolding frames
returns c =
    on_ok_weaker c.put_flag-4.result
    (λ e. appends_then _ (ue_appended _ c.args.sps.now.max_num_ref_frames _ _ (omega (arith, c.requires.max_num_ref_frames)) (up_to_is c.args.sps.now.max_num_ref_frames 16 c.requires.max_num_ref_frames) c.in_ok-put_ue.ensures.ok)
    (appends_then _ (flag_appended _ c.args.sps.now.gaps_in_frame_num_value_allowed_flag _ _ refl c.in_ok-put_flag.ensures.ok)
    (appends_then _ (ue_appended _ c.args.sps.now.pic_width_in_mbs_minus1 _ _ (omega (arith, c.requires.size.columns)) refl c.in_ok-put_ue-2.ensures.ok)
    (appends_then _ (ue_appended _ c.args.sps.now.pic_height_in_map_units_minus1 _ _ (omega (arith, c.requires.size.rows)) refl c.in_ok-put_ue-3.ensures.ok)
    (appends_then _ (flag_appended _ c.args.sps.now.frame_mbs_only_flag _ _ (flag_is true c.args.sps.now.frame_mbs_only_flag c.requires.frame_mbs_only_flag) c.in_ok-put_flag-2.ensures.ok)
    (appends_then _ (flag_appended _ c.args.sps.now.direct_8x8_inference_flag _ _ refl c.in_ok-put_flag-3.ensures.ok)
    (appends_then _ (flag_appended _ c.args.sps.now.frame_cropping_flag _ _ refl e)
    (appends_made _ _)))))))) c.put_flag-4.ensures.ok
