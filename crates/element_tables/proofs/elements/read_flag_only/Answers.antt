use Rattle.std.proofs.lemmas.Result.{err_from_is_err_and}
use Rattle.element_tables.specs.Syntax.{only_flag}
use Rattle.element_tables.proofs.OneElement.{flag_accepted, flag_refused, flag_stopped}
use Rattle.element_tables.proofs.Rules.{beq_apart, beq_same, flag_is, flag_other}
use Rattle.element_tables.proofs.elements.read_flag_only.Goals as goal

pub returns-in_err-value : goal.returns-in_err-value
returns-in_err-value c =
    let p = err_from_is_err_and c.from_residual.result c.from_residual.ensures.1 in
    rw (p.1, p.2) (flag_stopped (only_flag c.args.wanted) c.in_err-value.field-0.0 c.args.reader.now c.read_flag.new.reader c.in_err-value.ensures)

pub returns-then-value-wanted : goal.returns-then-value-wanted
returns-then-value-wanted c = flag_accepted (only_flag c.args.wanted) c.in_ok-value.value c.args.reader.now c.read_flag.new.reader (flag_is c.args.wanted c.in_ok-value.value (beq_same c.in_ok-value.value c.args.wanted c.if-value-wanted.true)) c.in_ok-value.ensures

pub returns-else-value-wanted : goal.returns-else-value-wanted
returns-else-value-wanted c = flag_refused (only_flag c.args.wanted) c.in_ok-value.value _ c.args.reader.now c.read_flag.new.reader (flag_other c.args.wanted c.in_ok-value.value (beq_apart c.in_ok-value.value c.args.wanted c.if-value-wanted.false)) c.in_ok-value.ensures
