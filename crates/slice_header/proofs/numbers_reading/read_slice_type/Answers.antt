use Rattle.std.proofs.Common.{sym, ◌∙◌}
use Rattle.std.proofs.lemmas.Result.{err_from_is_err_and}
use Rattle.element_tables.proofs.OneElement.{ue_accepted, ue_refused, ue_stopped}
use Rattle.slice_header.specs.Spelling.{slice_types}
use Rattle.slice_header.proofs.Choices.{type_is, type_other}
use Rattle.slice_header.proofs.numbers_reading.read_slice_type.Goals as goal

pub returns-in_err-slice_type : goal.returns-in_err-slice_type
returns-in_err-slice_type c =
    let p = err_from_is_err_and c.from_residual.result c.from_residual.ensures.1 in
    rw (p.1, p.2) (ue_stopped slice_types c.in_err-slice_type.field-0.0 c.args.reader.now c.read_ue.new.reader c.in_err-slice_type.ensures)

pub returns-then-is_slice_type : goal.returns-then-is_slice_type
returns-then-is_slice_type c =
    let v = c.in_ok-slice_type.slice_type in
    ue_accepted slice_types v c.args.reader.now c.read_ue.new.reader (type_is v (sym c.is_slice_type.ensures ∙ c.if-is_slice_type.true)) c.in_ok-slice_type.ensures

pub returns-else-is_slice_type : goal.returns-else-is_slice_type
returns-else-is_slice_type c =
    let v = c.in_ok-slice_type.slice_type in
    ue_refused slice_types v _ c.args.reader.now c.read_ue.new.reader (type_other v (sym c.is_slice_type.ensures ∙ c.if-is_slice_type.false)) c.in_ok-slice_type.ensures
