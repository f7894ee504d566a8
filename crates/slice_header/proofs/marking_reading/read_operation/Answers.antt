use Rattle.std.proofs.Common.{arith}
use Rattle.std.proofs.lemmas.Result.{err_from_is_err_and}
use Rattle.slice_header.proofs.Numbered.{op_1, op_2, op_3, op_3_stops, op_4, op_6, op_reset, op_stops}
use Rattle.slice_header.proofs.marking_reading.read_operation.Goals as goal

pub returns-then-number-eq5 : goal.returns-then-number-eq5
returns-then-number-eq5 c = op_reset c.args.number c.args.reader.now c.if-number-eq5.true

pub returns-in_err-operand : goal.returns-in_err-operand
returns-in_err-operand c =
    let p = err_from_is_err_and c.from_residual.result c.from_residual.ensures.1 in
    rw (p.1, p.2) (op_stops c.args.number _ _ _ c.requires.some c.requires.most c.if-number-eq5.false c.in_err-operand.ensures)

pub returns-in_err-index-in-3 : goal.returns-in_err-index-in-3
returns-in_err-index-in-3 c =
    let p = err_from_is_err_and c.from_residual-in_err-index-in-3.result c.from_residual-in_err-index-in-3.ensures.1 in
    rw (p.1, p.2) (op_3_stops c.args.number _ _ _ _ _ c.in-3.is c.in_ok-operand.ensures c.in_err-index-in-3.ensures)

pub returns-in-1 : goal.returns-in-1
returns-in-1 c = op_1 c.args.number _ _ _ c.in-1.is c.in_ok-operand.ensures

pub returns-in-2 : goal.returns-in-2
returns-in-2 c = op_2 c.args.number _ _ _ c.in-2.is c.in_ok-operand.ensures

pub returns-in_ok-index-in-3 : goal.returns-in_ok-index-in-3
returns-in_ok-index-in-3 c = op_3 c.args.number _ _ _ _ _ c.in-3.is c.in_ok-operand.ensures c.in_ok-index-in-3.ensures

pub returns-in-4 : goal.returns-in-4
returns-in-4 c = op_4 c.args.number _ _ _ c.in-4.is c.in_ok-operand.ensures

pub returns-in_default : goal.returns-in_default
returns-in_default c = op_6 c.args.number _ _ _ (omega (arith, c.requires.some, c.requires.most, c.if-number-eq5.false, c.in_default)) c.in_ok-operand.ensures
