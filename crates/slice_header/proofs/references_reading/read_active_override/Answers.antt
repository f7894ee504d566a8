use Rattle.std.proofs.lemmas.Result.{err_from_is_err_and}
use Rattle.element_tables.specs.Syntax.{ue, up_to}
use Rattle.slice_header.specs.Spelling.{active_override}
use Rattle.slice_header.proofs.Choices.{flagged_absent, flagged_given, flagged_stop, flagged_unread}
use Rattle.slice_header.proofs.references_reading.read_active_override.Goals as goal

pub returns-in_err-is_present : goal.returns-in_err-is_present
unfolding active_override
returns-in_err-is_present c =
    let p = err_from_is_err_and c.from_residual.result c.from_residual.ensures.1 in
    rw (p.1, p.2) (flagged_unread (ue (up_to 15)) _ _ _ c.in_err-is_present.ensures)

pub returns-then-not-is_present : goal.returns-then-not-is_present
unfolding active_override
returns-then-not-is_present c = flagged_absent (ue (up_to 15)) c.in_ok-is_present.is_present _ _ c.if-not-is_present.true c.in_ok-is_present.ensures

pub returns-in_err-minus1 : goal.returns-in_err-minus1
unfolding active_override
returns-in_err-minus1 c =
    let p = err_from_is_err_and c.from_residual-in_err-minus1.result c.from_residual-in_err-minus1.ensures.1 in
    rw (p.1, p.2) (flagged_stop (ue (up_to 15)) c.in_ok-is_present.is_present _ _ _ _ c.if-not-is_present.false c.in_ok-is_present.ensures c.in_err-minus1.ensures)

pub returns : goal.returns
unfolding active_override
returns c = flagged_given (ue (up_to 15)) c.in_ok-is_present.is_present _ _ _ _ c.if-not-is_present.false c.in_ok-is_present.ensures c.in_ok-minus1.ensures
