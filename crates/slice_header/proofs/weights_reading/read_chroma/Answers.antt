use Rattle.std.proofs.lemmas.Result.{err_from_is_err_and}
use Rattle.slice_header.specs.Spelling.{chroma_weights}
use Rattle.slice_header.proofs.Choices.{flagged_absent, flagged_given, flagged_stop, flagged_unread}
use Rattle.slice_header.proofs.weights_reading.read_chroma.Goals as goal

pub returns-in_err-is_present : goal.returns-in_err-is_present
returns-in_err-is_present c =
    let p = err_from_is_err_and c.from_residual.result c.from_residual.ensures.1 in
    rw (p.1, p.2) (flagged_unread chroma_weights _ _ _ c.in_err-is_present.ensures)

pub returns-then-not-is_present : goal.returns-then-not-is_present
returns-then-not-is_present c = flagged_absent chroma_weights c.in_ok-is_present.is_present _ _ c.if-not-is_present.true c.in_ok-is_present.ensures

pub returns-in_err-weights : goal.returns-in_err-weights
returns-in_err-weights c =
    let p = err_from_is_err_and c.from_residual-in_err-weights.result c.from_residual-in_err-weights.ensures.1 in
    rw (p.1, p.2) (flagged_stop chroma_weights c.in_ok-is_present.is_present _ _ _ _ c.if-not-is_present.false c.in_ok-is_present.ensures c.in_err-weights.ensures)

pub returns : goal.returns
returns c = flagged_given chroma_weights c.in_ok-is_present.is_present _ _ _ _ c.if-not-is_present.false c.in_ok-is_present.ensures c.in_ok-weights.ensures
