use Rattle.std.proofs.Common.{arith, length, refl, suc, ◌+◌, ◌-◌, ◌<◌, ◌≡◌}
use Rattle.std.proofs.lemmas.List.{take_more_set}
use Rattle.std.proofs.lemmas.Result.{err_from_is_err_and}
use Rattle.element_tables.specs.Syntax.{up_to}
use Rattle.element_tables.proofs.OneElement.{ue_range}
use Rattle.element_tables.proofs.Rules.{up_to_most}
use Rattle.slice_header.specs.Lists.{listed}
use Rattle.cb_types.specs.declared.header.ListEdit.TheVariants.{Subtract}
use Rattle.cb_types.specs.AcceptedInfo.{max_frame_num}
use Rattle.slice_header.specs.Spelling.{command}
use Rattle.slice_header.proofs.Padding.{filled_first, filled_more}
use Rattle.slice_header.proofs.Repeated.{goes_first, goes_given, goes_stopped, item_stops, last_given, last_stops, listed_ends, listed_more, listed_stops}
use Rattle.slice_header.proofs.Wholes.{edits_given, edits_stopped}
use Rattle.slice_header.proofs.references_reading.read_commands.Goals as goal

pub loop-k-init : goal.loop-k-init
loop-k-init c = record { goes = goes_first (listed 3 3 (command (max_frame_num c.args.info.now))) _ _ c.args.reader.now (omega arith); filled = filled_first 16 (Subtract 0) _ refl refl }

pub returns-in_err-idc : goal.returns-in_err-idc
returns-in_err-idc c =
    let p = err_from_is_err_and c.from_residual.result c.from_residual.ensures.1 in
    let left : c.args.active - c.loop-k.k ≡ suc (c.args.active - (c.loop-k.k + 1)) = omega (arith, c.loop-k-test.true) in
    rw (p.1, p.2) (edits_stopped (max_frame_num c.args.info.now) c.args.active _ _ _ (goes_stopped c.loop-k.invariant.goes (listed_stops 3 3 (command (max_frame_num c.args.info.now)) _ _ _ _ _ left c.in_err-idc.ensures)))

pub returns-then-idc-eq3 : goal.returns-then-idc-eq3
returns-then-idc-eq3 c =
    let left : c.args.active - c.loop-k.k ≡ suc (c.args.active - (c.loop-k.k + 1)) = omega (arith, c.loop-k-test.true) in
    edits_given (max_frame_num c.args.info.now) c.args.active c.loop-k.k _ _ _ c.loop-k.invariant.filled
    (goes_given c.loop-k.invariant.goes (listed_ends 3 3 (command (max_frame_num c.args.info.now)) _ _ c.in_ok-idc.idc _ _ left c.if-idc-eq3.true c.in_ok-idc.ensures))

pub read_command-requires-clause-most : goal.read_command-requires-clause-most
read_command-requires-clause-most c =
    let v = c.in_ok-idc.idc in
    let taken = c.in_ok-idc.ensures.answer in
    omega (arith, c.if-idc-eq3.false, up_to_most v 3 (ue_range (up_to 3) taken.front v taken.spelled).1)

pub returns-in_err-list : goal.returns-in_err-list
returns-in_err-list c =
    let p = err_from_is_err_and c.from_residual-in_err-list.result c.from_residual-in_err-list.ensures.1 in
    let left : c.args.active - c.loop-k.k ≡ suc (c.args.active - (c.loop-k.k + 1)) = omega (arith, c.loop-k-test.true) in
    rw (p.1, p.2) (edits_stopped (max_frame_num c.args.info.now) c.args.active _ _ _ (goes_stopped c.loop-k.invariant.goes (item_stops 3 3 (command (max_frame_num c.args.info.now)) _ _ c.in_ok-idc.idc _ _ _ _ left c.if-idc-eq3.false c.in_ok-idc.ensures c.in_err-list.ensures)))

pub loop-k-preserved : goal.loop-k-preserved
loop-k-preserved c =
    let k = c.loop-k.k in
    let xs = c.loop-k.list in
    let x = c.in_ok-list.field-0 in
    let few : k < 16 = omega (arith, c.loop-k-test.true, c.requires.active) in
    let place : k < length xs = omega (arith, few, c.loop-k.invariant.filled.long) in
    let left : c.args.active - k ≡ suc (c.args.active - (k + 1)) = omega (arith, c.loop-k-test.true) in
    record {
      goes = rw (take_more_set xs k x place) (listed_more 3 3 (command (max_frame_num c.args.info.now)) _ _ c.in_ok-idc.idc _ _ _ _ _ _ _ left c.if-idc-eq3.false c.loop-k.invariant.goes c.in_ok-idc.ensures c.in_ok-list.ensures);
      filled = filled_more 16 (Subtract 0) k xs x few c.loop-k.invariant.filled;
    }

pub returns-in_err-read_end : goal.returns-in_err-read_end
returns-in_err-read_end c =
    let p = err_from_is_err_and c.from_residual-in_err-read_end.result c.from_residual-in_err-read_end.ensures.1 in
    let none : c.args.active - c.loop-k.k ≡ 0 = omega (arith, c.loop-k-test.false) in
    rw (p.1, p.2) (edits_stopped (max_frame_num c.args.info.now) c.args.active _ _ _ (goes_stopped c.loop-k.invariant.goes (last_stops 3 3 (command (max_frame_num c.args.info.now)) _ _ _ _ none c.in_err-read_end.ensures)))

pub returns : goal.returns
returns c =
    let same : c.loop-k.k ≡ c.args.active = omega (arith, c.loop-k-test.false, c.loop-k.auto.k-end) in
    let none : c.args.active - c.loop-k.k ≡ 0 = omega (arith, c.loop-k-test.false) in
    rw same at (edits_given (max_frame_num c.args.info.now) c.args.active c.loop-k.k _ _ _ c.loop-k.invariant.filled
    (goes_given c.loop-k.invariant.goes (last_given 3 3 (command (max_frame_num c.args.info.now)) _ _ _ _ none c.in_ok-read_end.ensures)))
