use Rattle.std.proofs.lemmas.Result.{err_from_is_err_and, on_err_weaker, on_ok_weaker}
use Rattle.element_tables.proofs.Tables.{appends_made, appends_then}
use Rattle.slice_header.proofs.Written.{extends_more, extends_same}
use Rattle.std.proofs.Common.{arith, refl}
use Rattle.element_tables.proofs.OneElement.{u_appended, ue_appended}
use Rattle.element_tables.proofs.Rules.{up_to_is}
use Rattle.slice_header.specs.Spelling.{numbers}
use Rattle.slice_header.proofs.Choices.{type_is, type_value}
use Rattle.slice_header.proofs.numbers_writing.put_numbers.Goals as goal

pub returns-in_err-put_ue : goal.returns-in_err-put_ue
returns-in_err-put_ue c =
    let p = err_from_is_err_and c.from_residual.result c.from_residual.ensures.1 in
    rw p.1 (record { ok = tt; err = (extends_same c.in_err-put_ue.ensures.err) })

pub returns-in_err-put_ue-2 : goal.returns-in_err-put_ue-2
returns-in_err-put_ue-2 c =
    let p = err_from_is_err_and c.from_residual-in_err-put_ue-2.result c.from_residual-in_err-put_ue-2.ensures.1 in
    rw p.1 (record { ok = tt; err = (extends_more _ c.in_ok-put_ue.ensures.ok (extends_same c.in_err-put_ue-2.ensures.err)) })

pub returns-in_err-put_ue-3 : goal.returns-in_err-put_ue-3
returns-in_err-put_ue-3 c =
    let p = err_from_is_err_and c.from_residual-in_err-put_ue-3.result c.from_residual-in_err-put_ue-3.ensures.1 in
    rw p.1 (record { ok = tt; err = (extends_more _ c.in_ok-put_ue.ensures.ok (extends_more _ c.in_ok-put_ue-2.ensures.ok (extends_same c.in_err-put_ue-3.ensures.err))) })

pub returns-in_err-put_u : goal.returns-in_err-put_u
returns-in_err-put_u c =
    let p = err_from_is_err_and c.from_residual-in_err-put_u.result c.from_residual-in_err-put_u.ensures.1 in
    rw p.1 (record { ok = tt; err = (extends_more _ c.in_ok-put_ue.ensures.ok (extends_more _ c.in_ok-put_ue-2.ensures.ok (extends_more _ c.in_ok-put_ue-3.ensures.ok (extends_same c.in_err-put_u.ensures.err)))) })

pub returns : goal.returns
unfolding numbers
returns c =
    record {
      ok = on_ok_weaker c.put_idr_pic_id.result (λ e. (appends_then _ (ue_appended _ c.args.header.now.first_mb _ _ c.requires.header.first_mb refl c.in_ok-put_ue.ensures.ok)
          (appends_then _ (ue_appended _ c.args.header.now.slice_type _ _ (type_value c.args.header.now.slice_type c.requires.header.slice_type) (type_is c.args.header.now.slice_type c.requires.header.slice_type) c.in_ok-put_ue-2.ensures.ok)
          (appends_then _ (ue_appended _ c.args.header.now.pps _ _ (omega (arith, c.requires.header.pps)) (up_to_is c.args.header.now.pps 255 c.requires.header.pps) c.in_ok-put_ue-3.ensures.ok)
          (appends_then _ (u_appended _ _ c.args.header.now.frame_num _ _ c.requires.header.frame_num refl (rw c.from.ensures at c.in_ok-put_u.ensures.ok))
          (appends_then _ e (appends_made _ _))))))) c.put_idr_pic_id.ensures.ok;
      err = on_err_weaker c.put_idr_pic_id.result (λ e. (extends_more _ c.in_ok-put_ue.ensures.ok (extends_more _ c.in_ok-put_ue-2.ensures.ok (extends_more _ c.in_ok-put_ue-3.ensures.ok (extends_more _ c.in_ok-put_u.ensures.ok e))))) c.put_idr_pic_id.ensures.err;
    }
