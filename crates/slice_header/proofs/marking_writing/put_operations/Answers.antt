use Rattle.std.proofs.Common.{[], arith, drop, length, refl, suc, take, ◌+◌, ◌-◌, ◌<◌, ◌≡◌, ◌≤◌}
use Rattle.std.proofs.lemmas.List.{drop_all, drop_more, length-take-le}
use Rattle.std.proofs.lemmas.Result.{err_from_is_err_and, on_err_weaker, on_ok_weaker}
use Rattle.slice_header.specs.Lists.{listed}
use Rattle.slice_header.specs.Spelling.{operation}
use Rattle.slice_header.proofs.Written.{extends_both, extends_same, puts_end, puts_first, puts_item}
use Rattle.slice_header.proofs.WholesWritten.{operations_appended}
use Rattle.slice_header.proofs.marking_writing.put_operations.Goals as goal

pub loop-operation-init : goal.loop-operation-init
loop-operation-init c = puts_first (listed 6 0 operation) _ _ _ _ c.args.out.now (omega arith) refl

pub returns-in_err-put_operation-clause-err : goal.returns-in_err-put_operation-clause-err
returns-in_err-put_operation-clause-err c =
    let p = err_from_is_err_and c.from_residual.result c.from_residual.ensures.1 in
    rw p.1 (extends_both c.loop-operation.invariant.extends c.in_err-put_operation.ensures.err)

pub loop-operation-preserved : goal.loop-operation-preserved
loop-operation-preserved c =
    let xs = take c.args.count c.args.list.now in
    let k = c.loop-operation.operation-index in
    let all : length xs ≡ c.args.count = length-take-le c.args.count c.args.list.now (omega (arith, c.requires.most, c.requires.long)) in
    let lt : k < length xs = c.loop-operation-test.true in
    let few : c.args.count ≤ 64 = c.requires.most in
    let left : 64 - k ≡ suc (64 - (k + 1)) = omega (arith, all, lt, few) in
    puts_item 6 0 operation _ _ _ _ _ _ _ _ _ _ left (drop_more xs k _ lt) c.loop-operation.invariant c.in_ok-put_operation.ensures.ok

pub returns-clause-ok : goal.returns-clause-ok
returns-clause-ok c =
    let xs = take c.args.count c.args.list.now in
    let all : length xs ≡ c.args.count = length-take-le c.args.count c.args.list.now (omega (arith, c.requires.most, c.requires.long)) in
    let same : c.loop-operation.operation-index ≡ length xs = omega (arith, c.loop-operation-test.false, c.loop-operation.auto.operation-index-end) in
    let none : drop c.loop-operation.operation-index xs ≡ [] = drop_all c.loop-operation.operation-index xs (omega (arith, same)) in
    on_ok_weaker c.put_ue.result (λ e. operations_appended c.args.count c.args.list.now _ _ all (puts_end 6 0 operation _ _ _ _ _ _ _ none (omega arith) (omega arith) e c.loop-operation.invariant)) c.put_ue.ensures.ok

pub returns-clause-err : goal.returns-clause-err
returns-clause-err c = on_err_weaker c.put_ue.result (λ e. extends_both c.loop-operation.invariant.extends (extends_same e)) c.put_ue.ensures.err
