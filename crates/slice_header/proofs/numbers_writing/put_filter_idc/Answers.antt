use Rattle.std.proofs.Common.{subst, sym}
use Rattle.std.proofs.lemmas.Result.{on_err_weaker, on_ok_weaker}
use Rattle.element_tables.specs.Syntax.{Appends, present}
use Rattle.element_tables.proofs.Tables.{appends_absent, appends_present}
use Rattle.slice_header.proofs.Written.{extends_same}
use Rattle.std.proofs.Common.{arith}
use Rattle.element_tables.specs.Syntax.{ue, up_to}
use Rattle.element_tables.proofs.OneElement.{ue_appended}
use Rattle.element_tables.proofs.Rules.{up_to_is}
use Rattle.slice_header.proofs.numbers_writing.put_filter_idc.Goals as goal

pub returns-then-not-info : goal.returns-then-not-info
returns-then-not-info c = record {
  ok = subst (λ x. Appends (present c.args.info.now.deblocking_filter_control_present_flag (ue (up_to 2)) 0) x c.args.out.now c.args.out.now) (sym (c.requires.deblock_idc_absent c.if-not-info.true)) (appends_absent (ue (up_to 2)) 0 c.args.info.now.deblocking_filter_control_present_flag c.args.out.now c.if-not-info.true);
  err = tt;
}

pub returns : goal.returns
returns c = record {
  ok = on_ok_weaker c.put_ue.result (λ e. appends_present (ue (up_to 2)) 0 c.args.header.now.deblock_idc c.args.info.now.deblocking_filter_control_present_flag _ _ c.if-not-info.false (ue_appended (up_to 2) c.args.header.now.deblock_idc _ _ (omega (arith, c.requires.deblock_idc)) (up_to_is c.args.header.now.deblock_idc 2 c.requires.deblock_idc) e)) c.put_ue.ensures.ok;
  err = on_err_weaker c.put_ue.result (λ e. (extends_same e)) c.put_ue.ensures.err;
}
