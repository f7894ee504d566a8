use Rattle.std.proofs.lemmas.Result.{err_from_is_err_and}
use Rattle.element_tables.specs.Syntax.{any}
use Rattle.element_tables.proofs.OneElement.{flag_given, flag_unread}
use Rattle.element_tables.proofs.elements.read_flag.Goals as goal

pub returns-in_err-bit : goal.returns-in_err-bit
returns-in_err-bit c =
    let p = err_from_is_err_and c.from_residual.result c.from_residual.ensures.1 in
    rw (p.1, p.2) (flag_unread any c.in_err-bit.field-0.0 c.args.reader.now c.read_u.new.reader c.in_err-bit.ensures)

pub returns : goal.returns
returns c = flag_given c.args.reader.now c.read_u.new.reader c.in_ok-bit.bit c.in_ok-bit.ensures
