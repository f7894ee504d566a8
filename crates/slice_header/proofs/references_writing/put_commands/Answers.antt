use Rattle.std.proofs.Common.{[], arith, drop, length, refl, suc, take, ◌+◌, ◌-◌, ◌<◌, ◌≡◌, ◌≤◌}
use Rattle.std.proofs.lemmas.List.{drop_all, drop_more, length-take-le}
use Rattle.std.proofs.lemmas.Result.{err_from_is_err_and, on_err_weaker, on_ok_weaker}
use Rattle.cb_types.specs.AcceptedInfo.{max_frame_num}
use Rattle.cb_types.specs.Slices.{active_entries}
use Rattle.slice_header.specs.Lists.{listed}
use Rattle.slice_header.specs.Spelling.{command}
use Rattle.slice_header.proofs.Written.{extends_both, extends_same, puts_end, puts_first, puts_item}
use Rattle.slice_header.proofs.WholesWritten.{edits_appended}
use Rattle.slice_header.proofs.references_writing.put_commands.Goals as goal

pub loop-edit-init : goal.loop-edit-init
loop-edit-init c = puts_first (listed 3 3 (command (max_frame_num c.args.info.now))) _ _ _ _ c.args.out.now (omega arith) refl

pub returns-in_err-put_command-clause-err : goal.returns-in_err-put_command-clause-err
returns-in_err-put_command-clause-err c =
    let p = err_from_is_err_and c.from_residual.result c.from_residual.ensures.1 in
    rw p.1 (extends_both c.loop-edit.invariant.extends c.in_err-put_command.ensures.err)

pub loop-edit-preserved : goal.loop-edit-preserved
loop-edit-preserved c =
    let xs = take c.args.header.now.edit_count c.args.header.now.edits in
    let k = c.loop-edit.edit-index in
    let all : length xs ≡ c.args.header.now.edit_count = length-take-le c.args.header.now.edit_count c.args.header.now.edits (omega (arith, c.requires.header.edits.most, c.requires.header.edits.long)) in
    let lt : k < length xs = c.loop-edit-test.true in
    let few : c.args.header.now.edit_count ≤ (active_entries c.args.info.now c.args.header.now) = c.requires.header.edit_count in
    let left : (active_entries c.args.info.now c.args.header.now) - k ≡ suc ((active_entries c.args.info.now c.args.header.now) - (k + 1)) = omega (arith, all, lt, few) in
    puts_item 3 3 (command (max_frame_num c.args.info.now)) _ _ _ _ _ _ _ _ _ _ left (drop_more xs k _ lt) c.loop-edit.invariant c.in_ok-put_command.ensures.ok

pub returns-clause-ok : goal.returns-clause-ok
returns-clause-ok c =
    let xs = take c.args.header.now.edit_count c.args.header.now.edits in
    let all : length xs ≡ c.args.header.now.edit_count = length-take-le c.args.header.now.edit_count c.args.header.now.edits (omega (arith, c.requires.header.edits.most, c.requires.header.edits.long)) in
    let same : c.loop-edit.edit-index ≡ length xs = omega (arith, c.loop-edit-test.false, c.loop-edit.auto.edit-index-end) in
    let none : drop c.loop-edit.edit-index xs ≡ [] = drop_all c.loop-edit.edit-index xs (omega (arith, same)) in
    on_ok_weaker c.put_ue.result (λ e. edits_appended (max_frame_num c.args.info.now) (active_entries c.args.info.now c.args.header.now) c.args.header.now.edit_count c.args.header.now.edits _ _ all (puts_end 3 3 (command (max_frame_num c.args.info.now)) _ _ _ _ _ _ _ none (omega arith) (omega arith) e c.loop-edit.invariant)) c.put_ue.ensures.ok

pub returns-clause-err : goal.returns-clause-err
returns-clause-err c = on_err_weaker c.put_ue.result (λ e. extends_both c.loop-edit.invariant.extends (extends_same e)) c.put_ue.ensures.err
