use Rattle.std.proofs.lemmas.Result.{err_from_is_err_and}
use Rattle.slice_header.specs.Spelling.{weight}
use Rattle.slice_header.proofs.Choices.{flagged_absent, flagged_given, flagged_stop, flagged_unread}
use Rattle.slice_header.proofs.weights_reading.read_luma.Goals as goal

pub returns-in_err-is_present : goal.returns-in_err-is_present
returns-in_err-is_present c =
    let p = err_from_is_err_and c.from_residual.result c.from_residual.ensures.1 in
    rw (p.1, p.2) (flagged_unread weight _ _ _ c.in_err-is_present.ensures)

pub returns-then-not-is_present : goal.returns-then-not-is_present
returns-then-not-is_present c = flagged_absent weight c.in_ok-is_present.is_present _ _ c.if-not-is_present.true c.in_ok-is_present.ensures

pub returns-in_err-weight : goal.returns-in_err-weight
returns-in_err-weight c =
    let p = err_from_is_err_and c.from_residual-in_err-weight.result c.from_residual-in_err-weight.ensures.1 in
    rw (p.1, p.2) (flagged_stop weight c.in_ok-is_present.is_present _ _ _ _ c.if-not-is_present.false c.in_ok-is_present.ensures c.in_err-weight.ensures)

pub returns : goal.returns
returns c = flagged_given weight c.in_ok-is_present.is_present _ _ _ _ c.if-not-is_present.false c.in_ok-is_present.ensures c.in_ok-weight.ensures
