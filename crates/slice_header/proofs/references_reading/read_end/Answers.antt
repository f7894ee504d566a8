use Rattle.std.proofs.lemmas.Result.{err_from_is_err_and}
use Rattle.element_tables.proofs.OneElement.{ue_accepted, ue_refused, ue_stopped}
use Rattle.slice_header.specs.Lists.{exactly}
use Rattle.slice_header.proofs.Choices.{exactly_is, exactly_other}
use Rattle.slice_header.proofs.references_reading.read_end.Goals as goal

pub returns-in_err-number : goal.returns-in_err-number
returns-in_err-number c =
    let p = err_from_is_err_and c.from_residual.result c.from_residual.ensures.1 in
    rw (p.1, p.2) (ue_stopped (exactly c.args.wanted) c.in_err-number.field-0.0 c.args.reader.now c.read_ue.new.reader c.in_err-number.ensures)

pub returns-then-number-wanted : goal.returns-then-number-wanted
returns-then-number-wanted c = ue_accepted (exactly c.args.wanted) c.in_ok-number.number c.args.reader.now c.read_ue.new.reader (exactly_is c.in_ok-number.number c.args.wanted c.if-number-wanted.true) c.in_ok-number.ensures

pub returns-else-number-wanted : goal.returns-else-number-wanted
returns-else-number-wanted c = ue_refused (exactly c.args.wanted) c.in_ok-number.number _ c.args.reader.now c.read_ue.new.reader (exactly_other c.in_ok-number.number c.args.wanted c.if-number-wanted.false) c.in_ok-number.ensures
