use Rattle.std.proofs.Common.{arith}
use Rattle.std.proofs.lemmas.Result.{err_from_is_err_and}
use Rattle.cb_types.specs.AcceptedInfo.{max_frame_num}
use Rattle.slice_header.proofs.Numbered.{command_0, command_1, command_2, command_2_stops, command_stops}
use Rattle.slice_header.proofs.references_reading.read_command.Goals as goal

pub returns-in_err-number : goal.returns-in_err-number
returns-in_err-number c =
    let p = err_from_is_err_and c.from_residual.result c.from_residual.ensures.1 in
    rw (p.1, p.2) (command_2_stops (max_frame_num c.args.info.now) c.args.idc _ _ _ c.if-idc-eq2.true c.in_err-number.ensures)

pub returns-then-idc-eq2 : goal.returns-then-idc-eq2
returns-then-idc-eq2 c = command_2 (max_frame_num c.args.info.now) c.args.idc _ _ _ c.if-idc-eq2.true c.in_ok-number.ensures

pub returns-in_err-difference : goal.returns-in_err-difference
returns-in_err-difference c =
    let p = err_from_is_err_and c.from_residual-in_err-difference.result c.from_residual-in_err-difference.ensures.1 in
    rw (p.1, p.2) (command_stops (max_frame_num c.args.info.now) c.args.idc _ _ _ (omega (arith, c.requires.most, c.if-idc-eq2.false)) (rw c.max_frame_num.ensures.value at c.in_err-difference.ensures))

pub returns-then-idc-eq0 : goal.returns-then-idc-eq0
returns-then-idc-eq0 c = command_0 (max_frame_num c.args.info.now) c.args.idc _ _ _ c.if-idc-eq0.true (rw c.max_frame_num.ensures.value at c.in_ok-difference.ensures)

pub returns-else-idc-eq0 : goal.returns-else-idc-eq0
returns-else-idc-eq0 c = command_1 (max_frame_num c.args.info.now) c.args.idc _ _ _ (omega (arith, c.requires.most, c.if-idc-eq2.false, c.if-idc-eq0.false)) (rw c.max_frame_num.ensures.value at c.in_ok-difference.ensures)
