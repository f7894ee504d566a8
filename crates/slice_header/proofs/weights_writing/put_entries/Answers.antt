use Rattle.std.proofs.Common.{[], arith, drop, length, refl, suc, take, ◌+◌, ◌-◌, ◌<◌, ◌≡◌, ◌≤◌}
use Rattle.std.proofs.lemmas.List.{drop_all, drop_more, length-take-le}
use Rattle.std.proofs.lemmas.Result.{err_from_is_err_and}
use Rattle.element_tables.specs.Syntax.{times}
use Rattle.slice_header.specs.Spelling.{entry_weights}
use Rattle.slice_header.proofs.Written.{extends_both, puts_done, puts_first, puts_once}
use Rattle.slice_header.proofs.WholesWritten.{entries_appended}
use Rattle.slice_header.proofs.weights_writing.put_entries.Goals as goal

pub loop-entry-init : goal.loop-entry-init
loop-entry-init c = puts_first (λ n. times n entry_weights) _ _ _ _ c.args.out.now (omega arith) refl

pub returns-in_err-put_entry-clause-err : goal.returns-in_err-put_entry-clause-err
returns-in_err-put_entry-clause-err c =
    let p = err_from_is_err_and c.from_residual.result c.from_residual.ensures.1 in
    rw p.1 (extends_both c.loop-entry.invariant.extends c.in_err-put_entry.ensures.err)

pub loop-entry-preserved : goal.loop-entry-preserved
loop-entry-preserved c =
    let xs = take c.args.active c.args.entries.now in
    let k = c.loop-entry.entry-index in
    let all : length xs ≡ c.args.active = length-take-le c.args.active c.args.entries.now (omega (arith, c.requires.most, c.requires.long)) in
    let lt : k < length xs = c.loop-entry-test.true in
    let few : c.args.active ≤ c.args.active = omega arith in
    let left : c.args.active - k ≡ suc (c.args.active - (k + 1)) = omega (arith, all, lt, few) in
    puts_once entry_weights _ _ _ _ _ _ _ _ _ _ left (drop_more xs k _ lt) c.loop-entry.invariant c.in_ok-put_entry.ensures.ok

pub returns-clause-ok : goal.returns-clause-ok
returns-clause-ok c =
    let xs = take c.args.active c.args.entries.now in
    let all : length xs ≡ c.args.active = length-take-le c.args.active c.args.entries.now (omega (arith, c.requires.most, c.requires.long)) in
    let same : c.loop-entry.entry-index ≡ length xs = omega (arith, c.loop-entry-test.false, c.loop-entry.auto.entry-index-end) in
    let none : drop c.loop-entry.entry-index xs ≡ [] = drop_all c.loop-entry.entry-index xs (omega (arith, same)) in
    let over : c.args.active - c.loop-entry.entry-index ≡ 0 = omega (arith, all, same) in
    entries_appended c.args.active c.args.entries.now _ _ (puts_done entry_weights _ _ _ _ _ _ over none c.loop-entry.invariant)
