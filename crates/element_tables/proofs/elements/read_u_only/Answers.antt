use Rattle.std.proofs.lemmas.Result.{err_from_is_err_and}
use Rattle.element_tables.specs.Syntax.{only}
use Rattle.element_tables.proofs.OneElement.{u_accepted, u_refused, u_stopped}
use Rattle.element_tables.proofs.Rules.{only_is, only_other}
use Rattle.element_tables.proofs.elements.read_u_only.Goals as goal

pub returns-in_err-value : goal.returns-in_err-value
returns-in_err-value c =
    let p = err_from_is_err_and c.from_residual.result c.from_residual.ensures.1 in
    rw (p.1, p.2) (u_stopped c.args.n (only c.args.wanted) c.in_err-value.field-0.0 c.args.reader.now c.read_u.new.reader c.in_err-value.ensures)

pub returns-then-value-wanted : goal.returns-then-value-wanted
returns-then-value-wanted c = u_accepted c.args.n (only c.args.wanted) c.in_ok-value.value c.args.reader.now c.read_u.new.reader (only_is c.in_ok-value.value c.args.wanted c.if-value-wanted.true) c.in_ok-value.ensures

pub returns-else-value-wanted : goal.returns-else-value-wanted
returns-else-value-wanted c = u_refused c.args.n (only c.args.wanted) c.in_ok-value.value _ c.args.reader.now c.read_u.new.reader (only_other c.in_ok-value.value c.args.wanted c.if-value-wanted.false) c.in_ok-value.ensures
