use Rattle.std.proofs.Common.{refl}
use Rattle.std.proofs.lemmas.Result.{on_ok_weaker}
use Rattle.param_sets.specs.Sps.{cropping}
use Rattle.element_tables.proofs.OneElement.{ue_appended}
use Rattle.element_tables.proofs.Tables.{appends_made, appends_then}
use Rattle.param_sets.proofs.sps_writing.put_present_cropping.Goals as goal

pub returns : goal.returns
unfolding cropping
returns c =
    on_ok_weaker c.put_ue-4.result
    (λ e. appends_then _ (ue_appended _ c.args.sps.now.frame_crop_left_offset _ _ c.requires.frame_crop_left_offset refl c.in_ok-put_ue.ensures.ok)
    (appends_then _ (ue_appended _ c.args.sps.now.frame_crop_right_offset _ _ c.requires.frame_crop_right_offset refl c.in_ok-put_ue-2.ensures.ok)
    (appends_then _ (ue_appended _ c.args.sps.now.frame_crop_top_offset _ _ c.requires.frame_crop_top_offset refl c.in_ok-put_ue-3.ensures.ok)
    (appends_then _ (ue_appended _ c.args.sps.now.frame_crop_bottom_offset _ _ c.requires.frame_crop_bottom_offset refl e)
    (appends_made _ _))))) c.put_ue-4.ensures.ok
