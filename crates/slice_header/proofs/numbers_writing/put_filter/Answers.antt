use Rattle.std.proofs.lemmas.Result.{err_from_is_err_and, on_err_weaker, on_ok_weaker}
use Rattle.element_tables.proofs.Tables.{appends_made, appends_then}
use Rattle.slice_header.proofs.Written.{extends_more, extends_same, extends_then}
use Rattle.std.proofs.Common.{SFits, rules, to_z-of_z, w32}
use Rattle.element_tables.proofs.OneElement.{se_appended}
use Rattle.element_tables.proofs.Rules.{between_fits}
use Rattle.slice_header.specs.Spelling.{filter, greatest_qp_delta, least_qp_delta}
use Rattle.slice_header.proofs.Quantizer.{delta_high, delta_low}
use Rattle.slice_header.proofs.Signed.{delta_value}
use Rattle.slice_header.proofs.numbers_writing.put_filter.Goals as goal

pub returns-in_err-put_se : goal.returns-in_err-put_se
returns-in_err-put_se c =
    let p = err_from_is_err_and c.from_residual.result c.from_residual.ensures.1 in
    rw p.1 (record { ok = tt; err = (extends_same c.in_err-put_se.ensures.err) })

pub returns-in_err-put_filter_idc : goal.returns-in_err-put_filter_idc
returns-in_err-put_filter_idc c =
    let p = err_from_is_err_and c.from_residual-in_err-put_filter_idc.result c.from_residual-in_err-put_filter_idc.ensures.1 in
    rw p.1 (record { ok = tt; err = (extends_more _ c.in_ok-put_se.ensures.ok c.in_err-put_filter_idc.ensures.err) })

pub returns-in_err-put_offset : goal.returns-in_err-put_offset
returns-in_err-put_offset c =
    let p = err_from_is_err_and c.from_residual-in_err-put_offset.result c.from_residual-in_err-put_offset.ensures.1 in
    rw p.1 (record { ok = tt; err = (extends_more _ c.in_ok-put_se.ensures.ok (extends_then c.in_ok-put_filter_idc.ensures.ok c.in_err-put_offset.ensures.err)) })

pub returns : goal.returns
unfolding filter
returns c =
    let low = delta_low c.args.info.now.pic_init_qp_minus26 c.args.header.now.qp_delta c.requires.ranges.qp_least c.requires.ranges.qp_most c.requires.header.qp_least in
    let high = delta_high c.args.info.now.pic_init_qp_minus26 c.args.header.now.qp_delta c.requires.ranges.qp_least c.requires.ranges.qp_most c.requires.header.qp_most in
    let fits-qp : SFits w32 c.args.header.now.qp_delta = search rules in
    let fits-alpha : SFits w32 c.args.header.now.alpha_half = search rules in
    let fits-beta : SFits w32 c.args.header.now.beta_half = search rules in
    record {
      ok = on_ok_weaker c.put_offset-2.result (λ e. (appends_then _ (se_appended _ c.args.header.now.qp_delta _ _ (delta_value c.args.info.now c.args.header.now.qp_delta c.requires.ranges low high) (between_fits (least_qp_delta c.args.info.now) (greatest_qp_delta c.args.info.now) c.args.header.now.qp_delta low high) (rw (to_z-of_z fits-qp) at c.in_ok-put_se.ensures.ok))
          (appends_then _ c.in_ok-put_filter_idc.ensures.ok
          (appends_then _ (rw (c.has_offsets-is_present.ensures, to_z-of_z fits-alpha) at c.in_ok-put_offset.ensures.ok)
          (appends_then _ (rw (c.has_offsets-is_present.ensures, to_z-of_z fits-beta) at e) (appends_made _ _)))))) c.put_offset-2.ensures.ok;
      err = on_err_weaker c.put_offset-2.result (λ e. (extends_more _ c.in_ok-put_se.ensures.ok (extends_then c.in_ok-put_filter_idc.ensures.ok (extends_then c.in_ok-put_offset.ensures.ok e)))) c.put_offset-2.ensures.err;
    }

pub put_se-requires : goal.put_se-requires
put_se-requires c =
    let low = delta_low c.args.info.now.pic_init_qp_minus26 c.args.header.now.qp_delta c.requires.ranges.qp_least c.requires.ranges.qp_most c.requires.header.qp_least in
    let high = delta_high c.args.info.now.pic_init_qp_minus26 c.args.header.now.qp_delta c.requires.ranges.qp_least c.requires.ranges.qp_most c.requires.header.qp_most in
    let fits-qp : SFits w32 c.args.header.now.qp_delta = search rules in
    rw (to_z-of_z fits-qp) (delta_value c.args.info.now c.args.header.now.qp_delta c.requires.ranges low high)
