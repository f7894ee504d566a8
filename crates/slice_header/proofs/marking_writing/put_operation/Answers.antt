use Rattle.std.proofs.Common.{subst, sym}
use Rattle.std.proofs.lemmas.Result.{on_ok_weaker}
use Rattle.cb_types.specs.declared.header.Mmco.{Mmco}
use Rattle.cb_types.specs.declared.header.Mmco.TheVariants.{CurrentLong, MakeLong, MaxLong, UnmarkLong, UnmarkShort}
use Rattle.slice_header.specs.Lists.{AppendsItem}
use Rattle.slice_header.specs.Spelling.{operation}
use Rattle.slice_header.specs.Headers.{IsOperation}
use Rattle.slice_header.proofs.NumberedWritten.{put_1, put_2, put_3, put_4, put_5, put_6}
use Rattle.slice_header.proofs.marking_writing.put_operation.Goals as goal

pub returns-in-UnmarkShort-clause-ok : goal.returns-in-UnmarkShort-clause-ok
returns-in-UnmarkShort-clause-ok c =
    let is : IsOperation (UnmarkShort c.in-UnmarkShort.difference) = subst IsOperation c.in-UnmarkShort.is c.requires in
    on_ok_weaker c.put_numbered.result (λ e. subst (λ (x : Mmco). AppendsItem 6 0 operation x c.args.out.now c.put_numbered.new.out) (sym c.in-UnmarkShort.is) (put_1 c.in-UnmarkShort.difference _ _ is e)) c.put_numbered.ensures.ok

pub returns-in-UnmarkLong-clause-ok : goal.returns-in-UnmarkLong-clause-ok
returns-in-UnmarkLong-clause-ok c =
    let is : IsOperation (UnmarkLong c.in-UnmarkLong.number) = subst IsOperation c.in-UnmarkLong.is c.requires in
    on_ok_weaker c.put_numbered-in-UnmarkLong.result (λ e. subst (λ (x : Mmco). AppendsItem 6 0 operation x c.args.out.now c.put_numbered-in-UnmarkLong.new.out) (sym c.in-UnmarkLong.is) (put_2 c.in-UnmarkLong.number _ _ is e)) c.put_numbered-in-UnmarkLong.ensures.ok

pub returns-in-MaxLong-clause-ok : goal.returns-in-MaxLong-clause-ok
returns-in-MaxLong-clause-ok c =
    let is : IsOperation (MaxLong c.in-MaxLong.plus1) = subst IsOperation c.in-MaxLong.is c.requires in
    on_ok_weaker c.put_numbered-in-MaxLong.result (λ e. subst (λ (x : Mmco). AppendsItem 6 0 operation x c.args.out.now c.put_numbered-in-MaxLong.new.out) (sym c.in-MaxLong.is) (put_4 c.in-MaxLong.plus1 _ _ is e)) c.put_numbered-in-MaxLong.ensures.ok

pub returns-in-CurrentLong-clause-ok : goal.returns-in-CurrentLong-clause-ok
returns-in-CurrentLong-clause-ok c =
    let is : IsOperation (CurrentLong c.in-CurrentLong.index) = subst IsOperation c.in-CurrentLong.is c.requires in
    on_ok_weaker c.put_numbered-in-CurrentLong.result (λ e. subst (λ (x : Mmco). AppendsItem 6 0 operation x c.args.out.now c.put_numbered-in-CurrentLong.new.out) (sym c.in-CurrentLong.is) (put_6 c.in-CurrentLong.index _ _ is e)) c.put_numbered-in-CurrentLong.ensures.ok

pub returns-in_ok-put_numbered-in-MakeLong-clause-ok : goal.returns-in_ok-put_numbered-in-MakeLong-clause-ok
returns-in_ok-put_numbered-in-MakeLong-clause-ok c =
    let is : IsOperation (MakeLong c.in-MakeLong.difference c.in-MakeLong.index) = subst IsOperation c.in-MakeLong.is c.requires in
    on_ok_weaker c.put_ue.result (λ e. subst (λ (x : Mmco). AppendsItem 6 0 operation x c.args.out.now c.put_ue.new.self) (sym c.in-MakeLong.is) (put_3 c.in-MakeLong.difference c.in-MakeLong.index _ _ _ is.0 is.1 c.in_ok-put_numbered-in-MakeLong.ensures.ok e)) c.put_ue.ensures.ok

pub returns-in-Reset-clause-ok : goal.returns-in-Reset-clause-ok
returns-in-Reset-clause-ok c =
    on_ok_weaker c.put_ue-in-Reset.result (λ e. subst (λ (x : Mmco). AppendsItem 6 0 operation x c.args.out.now c.put_ue-in-Reset.new.self) (sym c.in-Reset.is) (put_5 _ _ e)) c.put_ue-in-Reset.ensures.ok
