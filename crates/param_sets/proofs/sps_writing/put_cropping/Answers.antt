use Rattle.std.proofs.Common.{subst, sym}
use Rattle.std.proofs.lemmas.Result.{on_ok_weaker}
use Rattle.param_sets.specs.Sps.{cropping, no_cropping}
use Rattle.param_sets.specs.Parts.{crop_of}
use Rattle.element_tables.specs.Syntax.{Appends, present}
use Rattle.param_sets.specs.declared.sps_parts.Cropping.{Cropping}
use Rattle.param_sets.proofs.SpsRanges.{crop_is_absent}
use Rattle.element_tables.proofs.Tables.{appends_absent, appends_present}
use Rattle.param_sets.proofs.sps_writing.put_cropping.Goals as goal

pub returns-then-not-sps : goal.returns-then-not-sps
returns-then-not-sps c =
    let s = c.args.sps.now in
    let old = c.args.out.now in
    subst (λ (x : Cropping). Appends (present s.frame_cropping_flag cropping no_cropping) x old old) (sym (crop_is_absent s c.requires c.if-not-sps.true))
    (appends_absent cropping no_cropping s.frame_cropping_flag old c.if-not-sps.true)

pub returns : goal.returns
returns c =
    let s = c.args.sps.now in
    on_ok_weaker c.put_present_cropping.result
    (appends_present cropping no_cropping (crop_of s) s.frame_cropping_flag c.args.out.now c.put_present_cropping.new.out c.if-not-sps.false)
    c.put_present_cropping.ensures
