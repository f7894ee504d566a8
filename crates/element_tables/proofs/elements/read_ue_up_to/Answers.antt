use Rattle.std.proofs.lemmas.Result.{err_from_is_err_and}
use Rattle.element_tables.specs.Syntax.{up_to}
use Rattle.element_tables.proofs.OneElement.{ue_accepted, ue_refused, ue_stopped}
use Rattle.element_tables.proofs.Rules.{up_to_is, up_to_other}
use Rattle.element_tables.proofs.elements.read_ue_up_to.Goals as goal

pub returns-in_err-value : goal.returns-in_err-value
returns-in_err-value c =
    let p = err_from_is_err_and c.from_residual.result c.from_residual.ensures.1 in
    rw (p.1, p.2) (ue_stopped (up_to c.args.greatest) c.in_err-value.field-0.0 c.args.reader.now c.read_ue.new.reader c.in_err-value.ensures)

pub returns-then-value-greatest : goal.returns-then-value-greatest
returns-then-value-greatest c = ue_accepted (up_to c.args.greatest) c.in_ok-value.value c.args.reader.now c.read_ue.new.reader (up_to_is c.in_ok-value.value c.args.greatest c.if-value-greatest.true) c.in_ok-value.ensures

pub returns-else-value-greatest : goal.returns-else-value-greatest
returns-else-value-greatest c = ue_refused (up_to c.args.greatest) c.in_ok-value.value _ c.args.reader.now c.read_ue.new.reader (up_to_other c.in_ok-value.value c.args.greatest c.if-value-greatest.false) c.in_ok-value.ensures
