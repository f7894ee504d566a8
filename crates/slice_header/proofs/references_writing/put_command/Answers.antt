use Rattle.std.proofs.Common.{subst, sym}
use Rattle.std.proofs.lemmas.Result.{on_ok_weaker}
use Rattle.cb_types.specs.AcceptedInfo.{max_frame_num}
use Rattle.cb_types.specs.declared.header.ListEdit.{ListEdit}
use Rattle.cb_types.specs.declared.header.ListEdit.TheVariants.{Add, Long, Subtract}
use Rattle.slice_header.specs.Lists.{AppendsItem}
use Rattle.slice_header.specs.Spelling.{command}
use Rattle.slice_header.specs.Headers.{IsEdit}
use Rattle.slice_header.proofs.Signed.{wide}
use Rattle.slice_header.proofs.NumberedWritten.{put_command_0, put_command_1, put_command_2}
use Rattle.slice_header.proofs.references_writing.put_command.Goals as goal

pub returns-in-Subtract-clause-ok : goal.returns-in-Subtract-clause-ok
returns-in-Subtract-clause-ok c =
    let is : IsEdit c.args.info.now (Subtract c.in-Subtract.difference) = subst (IsEdit c.args.info.now) c.in-Subtract.is c.requires.edit in
    on_ok_weaker c.put_numbered.result (λ e. subst (λ (x : ListEdit). AppendsItem 3 3 (command (max_frame_num c.args.info.now)) x c.args.out.now c.put_numbered.new.out) (sym c.in-Subtract.is) (put_command_0 (max_frame_num c.args.info.now) c.in-Subtract.difference _ _ is (wide c.args.info.now c.in-Subtract.difference c.requires.ranges is) e)) c.put_numbered.ensures.ok

pub returns-in-Add-clause-ok : goal.returns-in-Add-clause-ok
returns-in-Add-clause-ok c =
    let is : IsEdit c.args.info.now (Add c.in-Add.difference) = subst (IsEdit c.args.info.now) c.in-Add.is c.requires.edit in
    on_ok_weaker c.put_numbered-in-Add.result (λ e. subst (λ (x : ListEdit). AppendsItem 3 3 (command (max_frame_num c.args.info.now)) x c.args.out.now c.put_numbered-in-Add.new.out) (sym c.in-Add.is) (put_command_1 (max_frame_num c.args.info.now) c.in-Add.difference _ _ is (wide c.args.info.now c.in-Add.difference c.requires.ranges is) e)) c.put_numbered-in-Add.ensures.ok

pub returns-in-Long-clause-ok : goal.returns-in-Long-clause-ok
returns-in-Long-clause-ok c =
    let is : IsEdit c.args.info.now (Long c.in-Long.number) = subst (IsEdit c.args.info.now) c.in-Long.is c.requires.edit in
    on_ok_weaker c.put_numbered-in-Long.result (λ e. subst (λ (x : ListEdit). AppendsItem 3 3 (command (max_frame_num c.args.info.now)) x c.args.out.now c.put_numbered-in-Long.new.out) (sym c.in-Long.is) (put_command_2 (max_frame_num c.args.info.now) c.in-Long.number _ _ is e)) c.put_numbered-in-Long.ensures.ok

pub put_numbered-requires-clause-value : goal.put_numbered-requires-clause-value
put_numbered-requires-clause-value c =
    let is : IsEdit c.args.info.now (Subtract c.in-Subtract.difference) = subst (IsEdit c.args.info.now) c.in-Subtract.is c.requires.edit in
    wide c.args.info.now c.in-Subtract.difference c.requires.ranges is

pub put_numbered-requires-in-Add-clause-value : goal.put_numbered-requires-in-Add-clause-value
put_numbered-requires-in-Add-clause-value c =
    let is : IsEdit c.args.info.now (Add c.in-Add.difference) = subst (IsEdit c.args.info.now) c.in-Add.is c.requires.edit in
    wide c.args.info.now c.in-Add.difference c.requires.ranges is
