use Rattle.std.proofs.Common.{arith, length, refl, suc, ◌+◌, ◌-◌, ◌<◌, ◌≡◌}
use Rattle.std.proofs.lemmas.List.{take_more_set}
use Rattle.std.proofs.lemmas.Result.{err_from_is_err_and}
use Rattle.element_tables.specs.Syntax.{up_to}
use Rattle.element_tables.proofs.OneElement.{ue_range}
use Rattle.element_tables.proofs.Rules.{up_to_most}
use Rattle.slice_header.specs.Lists.{listed}
use Rattle.cb_types.specs.declared.header.Mmco.TheVariants.{Reset}
use Rattle.slice_header.specs.Spelling.{operation}
use Rattle.slice_header.proofs.Padding.{filled_first, filled_more}
use Rattle.slice_header.proofs.Repeated.{goes_first, goes_given, goes_stopped, item_stops, last_given, last_stops, listed_ends, listed_more, listed_stops}
use Rattle.slice_header.proofs.Wholes.{operations_given, operations_stopped}
use Rattle.slice_header.proofs.marking_reading.read_operations.Goals as goal

pub loop-k-init : goal.loop-k-init
loop-k-init c = record { goes = goes_first (listed 6 0 operation) _ _ c.args.reader.now (omega arith); filled = filled_first 64 Reset _ refl refl }

pub returns-in_err-number : goal.returns-in_err-number
returns-in_err-number c =
    let p = err_from_is_err_and c.from_residual.result c.from_residual.ensures.1 in
    let left : 64 - c.loop-k.k ≡ suc (64 - (c.loop-k.k + 1)) = omega (arith, c.loop-k-test.true) in
    rw (p.1, p.2) (operations_stopped _ _ _ (goes_stopped c.loop-k.invariant.goes (listed_stops 6 0 operation _ _ _ _ _ left c.in_err-number.ensures)))

pub returns-then-number-eq0 : goal.returns-then-number-eq0
returns-then-number-eq0 c =
    let left : 64 - c.loop-k.k ≡ suc (64 - (c.loop-k.k + 1)) = omega (arith, c.loop-k-test.true) in
    operations_given c.loop-k.k _ _ _ c.loop-k.invariant.filled
    (goes_given c.loop-k.invariant.goes (listed_ends 6 0 operation _ _ c.in_ok-number.number _ _ left c.if-number-eq0.true c.in_ok-number.ensures))

pub read_operation-requires-clause-most : goal.read_operation-requires-clause-most
read_operation-requires-clause-most c =
    let v = c.in_ok-number.number in
    let taken = c.in_ok-number.ensures.answer in
    omega (arith, c.if-number-eq0.false, up_to_most v 6 (ue_range (up_to 6) taken.front v taken.spelled).1)

pub returns-in_err-list : goal.returns-in_err-list
returns-in_err-list c =
    let p = err_from_is_err_and c.from_residual-in_err-list.result c.from_residual-in_err-list.ensures.1 in
    let left : 64 - c.loop-k.k ≡ suc (64 - (c.loop-k.k + 1)) = omega (arith, c.loop-k-test.true) in
    rw (p.1, p.2) (operations_stopped _ _ _ (goes_stopped c.loop-k.invariant.goes (item_stops 6 0 operation _ _ c.in_ok-number.number _ _ _ _ left c.if-number-eq0.false c.in_ok-number.ensures c.in_err-list.ensures)))

pub loop-k-preserved : goal.loop-k-preserved
loop-k-preserved c =
    let k = c.loop-k.k in
    let xs = c.loop-k.list in
    let x = c.in_ok-list.field-0 in
    let few : k < 64 = omega (arith, c.loop-k-test.true) in
    let place : k < length xs = omega (arith, few, c.loop-k.invariant.filled.long) in
    let left : 64 - k ≡ suc (64 - (k + 1)) = omega (arith, c.loop-k-test.true) in
    record {
      goes = rw (take_more_set xs k x place) (listed_more 6 0 operation _ _ c.in_ok-number.number _ _ _ _ _ _ _ left c.if-number-eq0.false c.loop-k.invariant.goes c.in_ok-number.ensures c.in_ok-list.ensures);
      filled = filled_more 64 Reset k xs x few c.loop-k.invariant.filled;
    }

pub returns-in_err-read_end : goal.returns-in_err-read_end
returns-in_err-read_end c =
    let p = err_from_is_err_and c.from_residual-in_err-read_end.result c.from_residual-in_err-read_end.ensures.1 in
    let none : 64 - c.loop-k.k ≡ 0 = omega (arith, c.loop-k-test.false) in
    rw (p.1, p.2) (operations_stopped _ _ _ (goes_stopped c.loop-k.invariant.goes (last_stops 6 0 operation _ _ _ _ none c.in_err-read_end.ensures)))

pub returns : goal.returns
returns c =
    let same : c.loop-k.k ≡ 64 = omega (arith, c.loop-k-test.false, c.loop-k.auto.k-end) in
    let none : 64 - c.loop-k.k ≡ 0 = omega (arith, c.loop-k-test.false) in
    rw same at (operations_given c.loop-k.k _ _ _ c.loop-k.invariant.filled
    (goes_given c.loop-k.invariant.goes (last_given 6 0 operation _ _ _ _ none c.in_ok-read_end.ensures)))
