use Rattle.std.proofs.Common.{◌<◌, ◌≤◌, [], length, Err, inl, inr, refl, sym, ap}
use Rattle.std.proofs.lemmas.Result.{err_from_is_err_and}
use Rattle.vd_outside.specs.Shelf.{told}
use Rattle.vdplay.specs.declared.exit.Exit.TheVariants.{OutOfMemory, ReadFault, TooLarge}
use Rattle.vdplay.proofs.OutsideLemmas.{left_decided, left_later, left_reading, left_writing, none_read}
use Rattle.vdplay.proofs.RunLemmas.{end_refused, end_stopped, long_case, run_at, short_case, short_at, stopped_before, too_long}
use Rattle.vdplay.proofs.file_run.run_file.Goals as goal

pub returns-in_err-is_too_long-clause-run : goal.returns-in_err-is_too_long-clause-run
returns-in_err-is_too_long-clause-run g c =
    let p = err_from_is_err_and c.from_residual.result c.from_residual.ensures.1 in
    rw (p.1, p.2) (stopped_before _ _ _ _ _ _ _ (inl refl) (λ e. c.in_err-is_too_long.ensures.cause refl))

pub end-requires : goal.end-requires
end-requires g c = ([], (g.K.Sink.written c.args.sink.now, c.requires))

pub returns-in_err-end-clause-run : goal.returns-in_err-end-clause-run
returns-in_err-end-clause-run g c =
    let p = err_from_is_err_and c.from_residual-in_err-end.result c.from_residual-in_err-end.ensures.1 in
    let has = too_long _ (long_case _ c.in_ok-is_too_long.field-0 (λ file. 1073741824 < length file) (λ file. length file ≤ 1073741824) c.if-branch.true c.in_ok-is_too_long.ensures.long) in
    let e = c.in_err-end.ensures in
    rw (p.1, p.2) (end_stopped _ [] _ _ _ _ _ _ _ _ _ _ c.in_err-end.field-0.0 refl (c.in_ok-is_too_long.ensures.faultless c.args.name.now) refl has (e.front [] (g.K.Sink.written c.args.sink.now) c.requires) e.exits (λ same_exit. e.cause (ap Err same_exit)))

pub returns-then-branch-clause-run : goal.returns-then-branch-clause-run
returns-then-branch-clause-run g c =
    let has = too_long _ (long_case _ c.in_ok-is_too_long.field-0 (λ file. 1073741824 < length file) (λ file. length file ≤ 1073741824) c.if-branch.true c.in_ok-is_too_long.ensures.long) in
    let e = c.in_ok-end.ensures in
    end_refused _ [] 0 _ _ _ _ _ _ _ _ _ _ _ refl refl (c.in_ok-is_too_long.ensures.faultless c.args.name.now) refl has (e.written [] (g.K.Sink.written c.args.sink.now) c.requires) e.faultless

pub returns-in_err-reader-clause-run : goal.returns-in_err-reader-clause-run
returns-in_err-reader-clause-run g c =
    let p = err_from_is_err_and c.from_residual-in_err-reader.result c.from_residual-in_err-reader.ensures.1 in
    rw (p.1, p.2) (stopped_before _ _ _ _ _ _ _ (inr refl) (λ e. absurd (cc)))

pub run_reader-requires-clause-reads : goal.run_reader-requires-clause-reads
run_reader-requires-clause-reads g c =
    let short = short_case _ c.in_ok-is_too_long.field-0 (λ file. 1073741824 < length file) (λ file. length file ≤ 1073741824) c.if-branch.false c.in_ok-is_too_long.ensures.long in
    c.in_ok-reader.ensures _ (short_at _ _ (sym (ap (λ files. told files c.args.name.now) c.in_ok-is_too_long.ensures.kept)) short)

pub run_reader-requires-clause-written : goal.run_reader-requires-clause-written
run_reader-requires-clause-written g c = c.requires

pub returns-clause-run : goal.returns-clause-run
returns-clause-run g c = run_at _ _ _ _ _ _ _ _ _ _ _ (ap (λ files. told files c.args.name.now) c.in_ok-is_too_long.ensures.kept) (c.in_ok-is_too_long.ensures.faultless c.args.name.now) c.run_reader.ensures.run

-- ---- what is left of shelf and sink

pub returns-in_err-is_too_long-clause-left : goal.returns-in_err-is_too_long-clause-left
returns-in_err-is_too_long-clause-left g c =
    let p = err_from_is_err_and c.from_residual.result c.from_residual.ensures.1 in
    rw (p.1, p.2) (left_reading ReadFault c.args.name.now _ _ _ _ _ (none_read _ _) (λ name. refl) refl c.in_err-is_too_long.ensures.alone c.in_err-is_too_long.ensures.stops)

pub returns-in_err-end-clause-left : goal.returns-in_err-end-clause-left
returns-in_err-end-clause-left g c =
    let p = err_from_is_err_and c.from_residual-in_err-end.result c.from_residual-in_err-end.ensures.1 in
    rw (p.1, p.2) (left_writing c.in_err-end.field-0.0 c.args.name.now _ _ _ _ _ c.in_ok-is_too_long.ensures.alone c.in_ok-is_too_long.ensures.faultless refl c.in_err-end.ensures.stops)

pub returns-then-branch-clause-left : goal.returns-then-branch-clause-left
returns-then-branch-clause-left g c = left_decided (TooLarge 0) c.args.name.now _ _ _ _ refl c.in_ok-is_too_long.ensures.alone c.in_ok-is_too_long.ensures.faultless c.in_ok-end.ensures.faultless

pub returns-in_err-reader-clause-left : goal.returns-in_err-reader-clause-left
returns-in_err-reader-clause-left g c =
    let p = err_from_is_err_and c.from_residual-in_err-reader.result c.from_residual-in_err-reader.ensures.1 in
    rw (p.1, p.2) (left_reading OutOfMemory c.args.name.now _ _ _ _ _ c.in_ok-is_too_long.ensures.alone c.in_ok-is_too_long.ensures.faultless refl (none_read _ _) (λ name. refl))

pub returns-clause-left : goal.returns-clause-left
returns-clause-left g c = left_later _ c.args.name.now _ _ _ _ _ c.in_ok-is_too_long.ensures.alone c.in_ok-is_too_long.ensures.faultless c.run_reader.ensures.left
