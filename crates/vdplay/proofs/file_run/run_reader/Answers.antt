use Rattle.std.proofs.Common.{◌∙◌, refl, sym, ap, subst, arith}
use Rattle.accepted_pictures.specs.Streams.{no_stream}
use Rattle.vd_outside.specs.Shelf.{told}
use Rattle.std.proofs.Common.{Err, Option, List, ℕ, ◌∷◌}
use Rattle.std.specs.Prelude.{IfSome}
use Rattle.std.proofs.lemmas.Result.{err_from_is_err_and}
use Rattle.vdplay.specs.Reports.{AppendsAhead}
use Rattle.vdplay.specs.Run.{IsDecided}
use Rattle.vdplay.specs.declared.command_line.Command.{Command}
use Rattle.vdplay.proofs.OutsideLemmas.{left_by, left_decided, left_reading, left_writing, none_read, read_more, same_more}
use Rattle.vdplay.proofs.PartLemmas.{AreFirstPictures, first_part, none_first}
use Rattle.vdplay.proofs.RunLemmas.{end_of_file, end_pictures, end_refused, end_stopped, few_written, goes_on, no_read, no_write, not_hungry, picked_at, reads_move, refusal_decided, refused_pictures, stopped, stopped_reading, stopped_writing, written_ahead}
use Rattle.vdplay.proofs.Texts.{on_ok_then}
use Rattle.vdplay.proofs.file_run.run_reader.Goals as goal

pub loop-given-init : goal.loop-given-init
loop-given-init g c = (refl, refl, refl, refl, record { stream = no_stream; reads = c.requires.reads; written = c.requires.written; first = none_first _; count = refl }, λ name. refl, none_read _ _)

pub next-requires : goal.next-requires
next-requires g c = let u = c.loop-given.invariant.4 in
    (u.stream, reads_move c.loop-given.reader _ _ u.stream (ap (λ files. told files c.args.name.now) (sym c.loop-given.invariant.0)) u.reads)

pub picture-requires : goal.picture-requires
picture-requires g c =
    let u = c.loop-given.invariant.4 in
    let reads = reads_move c.loop-given.reader _ _ u.stream (ap (λ files. told files c.args.name.now) (sym c.loop-given.invariant.0)) u.reads in
    let p = picked_at _ u.stream.decoded c.in_ok-shown.field-0 c.in-Picture.shown c.next.new.self c.in-Picture.is (c.in_ok-shown.ensures.answer u.stream reads) c.in_ok-shown.ensures.depth in
    (u.stream.decoded, (p.one, (g.K.Sink.written c.args.sink.now, u.written, p.next, p.shows)))

pub loop-given-preserved : goal.loop-given-preserved
loop-given-preserved g c =
    let u = c.loop-given.invariant.4 in
    let reads = reads_move c.loop-given.reader _ _ u.stream (ap (λ files. told files c.args.name.now) (sym c.loop-given.invariant.0)) u.reads in
    let p = picked_at _ u.stream.decoded c.in_ok-shown.field-0 c.in-Picture.shown c.next.new.self c.in-Picture.is (c.in_ok-shown.ensures.answer u.stream reads) c.in_ok-shown.ensures.depth in (
      c.in_ok-shown.ensures.kept ∙ c.loop-given.invariant.0,
      c.in_ok-shown.ensures.faultless c.args.name.now ∙ c.loop-given.invariant.1,
      c.in_ok-picture-in-Picture.ensures.faultless ∙ c.loop-given.invariant.2,
      c.in_ok-picture-in-Picture.ensures.command ∙ c.loop-given.invariant.3,
      goes_on _ _ c.loop-given._given u.stream.decoded c.in-Picture.shown c.next.new.self c.picture.new.self (g.K.Sink.written c.args.sink.now) (g.K.Sink.written c.picture.new.sink) p
          (ap (λ files. told files c.args.name.now) c.loop-given.invariant.0) (c.in_ok-picture-in-Picture.ensures.written u.stream.decoded p.one (g.K.Sink.written c.args.sink.now) u.written p.next p.shows) u.count,
      same_more _ _ _ c.loop-given.invariant.5 c.in_ok-shown.ensures.faultless,
      read_more _ _ _ _ c.loop-given.invariant.6 c.in_ok-shown.ensures.alone,
    )

pub end-requires : goal.end-requires
end-requires g c = let u = c.loop-given.invariant.4 in (u.stream.decoded, (g.K.Sink.written c.args.sink.now, u.written))

pub end-requires-in-Refused : goal.end-requires-in-Refused
end-requires-in-Refused g c = let u = c.loop-given.invariant.4 in (u.stream.decoded, (g.K.Sink.written c.args.sink.now, u.written))

pub unreachable-requires : goal.unreachable-requires
unreachable-requires g c =
    let u = c.loop-given.invariant.4 in
    let reads = reads_move c.loop-given.reader _ _ u.stream (ap (λ files. told files c.args.name.now) (sym c.loop-given.invariant.0)) u.reads in
    not_hungry _ u.stream.decoded c.in_ok-shown.field-0 c.next.new.self c.in-Hungry.is (c.in_ok-shown.ensures.answer u.stream reads)

pub unreachable-requires-2 : goal.unreachable-requires-2
unreachable-requires-2 g c =
    let u = c.loop-given.invariant.4 in
    let few = few_written c.loop-given.report u.stream.decoded _ _ u.written in
    let count = u.count in
    omega (arith, few, count, c.loop-given-test.false)

pub returns-in_err-shown-clause-run : goal.returns-in_err-shown-clause-run
returns-in_err-shown-clause-run g c =
    let u = c.loop-given.invariant.4 in
    let p = err_from_is_err_and c.from_residual.result c.from_residual.ensures.1 in
    let T : Command → Type 0 = λ command. AppendsAhead (g.K.Sink.written c.args.sink.now) (g.K.Sink.written c.loop-given.sink) command u.stream.decoded in
    rw (p.1, p.2) (stopped _ _ _ _ _ _ _ _ c.in_err-shown.field-0.0 (stopped_reading _ c.in_err-shown.ensures.exits)
    (first_part _ u.stream.decoded _ _ _ u.first (subst T c.loop-given.invariant.3 (written_ahead c.loop-given.report u.stream.decoded _ _ u.written)))
    (λ e. rw (← c.loop-given.invariant.1) (c.in_err-shown.ensures.cause (ap Err e)))
    (no_write _ _ c.in_err-shown.ensures.exits))

pub unreachable-unreachable : goal.unreachable-unreachable
unreachable-unreachable g c =
    let u = c.loop-given.invariant.4 in
    let reads = reads_move c.loop-given.reader _ _ u.stream (ap (λ files. told files c.args.name.now) (sym c.loop-given.invariant.0)) u.reads in
    not_hungry _ u.stream.decoded c.in_ok-shown.field-0 c.next.new.self c.in-Hungry.is (c.in_ok-shown.ensures.answer u.stream reads)

pub unreachable-unreachable-2 : goal.unreachable-unreachable-2
unreachable-unreachable-2 g c =
    let u = c.loop-given.invariant.4 in
    let few = few_written c.loop-given.report u.stream.decoded _ _ u.written in
    let count = u.count in
    omega (arith, few, count, c.loop-given-test.false)

pub returns-in_err-picture-in-Picture-clause-run : goal.returns-in_err-picture-in-Picture-clause-run
returns-in_err-picture-in-Picture-clause-run g c =
    let u = c.loop-given.invariant.4 in
    let reads = reads_move c.loop-given.reader _ _ u.stream (ap (λ files. told files c.args.name.now) (sym c.loop-given.invariant.0)) u.reads in
    let p = picked_at _ u.stream.decoded c.in_ok-shown.field-0 c.in-Picture.shown c.next.new.self c.in-Picture.is (c.in_ok-shown.ensures.answer u.stream reads) c.in_ok-shown.ensures.depth in
    let q = err_from_is_err_and c.from_residual-in_err-picture-in-Picture.result c.from_residual-in_err-picture-in-Picture.ensures.1 in
    let T : Command → Type 0 = λ command. AppendsAhead (g.K.Sink.written c.args.sink.now) (g.K.Sink.written c.picture.new.sink) command (p.one ∷ u.stream.decoded) in
    let F : Option (List ℕ) → Type 0 = λ k. IfSome k (λ file. AreFirstPictures file (p.one ∷ u.stream.decoded)) in
    let first = subst F (ap (λ files. told files c.args.name.now) c.loop-given.invariant.0) p.first in
    rw (q.1, q.2) (stopped _ _ _ _ _ _ _ _ c.in_err-picture-in-Picture.field-0.0 (stopped_writing _ c.in_err-picture-in-Picture.ensures.exits)
    (first_part _ (p.one ∷ u.stream.decoded) _ _ _ first (subst T c.loop-given.invariant.3 (c.picture.ensures.front u.stream.decoded p.one (g.K.Sink.written c.args.sink.now) u.written p.next p.shows)))
    (no_read _ _ c.in_err-picture-in-Picture.ensures.exits)
    (λ e. rw (← c.loop-given.invariant.2) (c.in_err-picture-in-Picture.ensures.cause (ap Err e))))

pub returns-in-End-clause-run : goal.returns-in-End-clause-run
returns-in-End-clause-run g c =
    let u = c.loop-given.invariant.4 in
    let same = ap (λ files. told files c.args.name.now) c.loop-given.invariant.0 in
    let reads = reads_move c.loop-given.reader _ _ u.stream (sym same) u.reads in
    let has = end_pictures _ _ u.stream.decoded c.in_ok-shown.field-0 c.loop-given.reader c.next.new.self u.stream same reads c.in-End.is (c.in_ok-shown.ensures.answer u.stream reads) in
    let e = c.end.ensures in
    end_of_file _ u.stream.decoded _ _ (g.K.Sink.written c.args.sink.now) _ _ _ _ _ _ c.end.result c.loop-given.invariant.3 (c.in_ok-shown.ensures.faultless c.args.name.now ∙ c.loop-given.invariant.1) c.loop-given.invariant.2 has
    (on_ok_then c.end.result _ _ (λ go. go u.stream.decoded (g.K.Sink.written c.args.sink.now) u.written) e.written) (e.front u.stream.decoded (g.K.Sink.written c.args.sink.now) u.written) e.cause e.faultless e.exits

pub returns-in_err-end-in-Refused-clause-run : goal.returns-in_err-end-in-Refused-clause-run
returns-in_err-end-in-Refused-clause-run g c =
    let u = c.loop-given.invariant.4 in
    let same = ap (λ files. told files c.args.name.now) c.loop-given.invariant.0 in
    let reads = reads_move c.loop-given.reader _ _ u.stream (sym same) u.reads in
    let has = refused_pictures _ _ u.stream.decoded c.in_ok-shown.field-0 c.in-Refused.offset c.in-Refused.large c.loop-given.reader c.next.new.self u.stream same reads c.in-Refused.is (c.in_ok-shown.ensures.answer u.stream reads) in
    let q = err_from_is_err_and c.from_residual-in_err-end-in-Refused.result c.from_residual-in_err-end-in-Refused.ensures.1 in
    let e = c.in_err-end-in-Refused.ensures in
    rw (q.1, q.2) (end_stopped _ u.stream.decoded _ _ _ _ _ _ _ _ _ _ c.in_err-end-in-Refused.field-0.0 c.loop-given.invariant.3 (c.in_ok-shown.ensures.faultless c.args.name.now ∙ c.loop-given.invariant.1) c.loop-given.invariant.2 has
    (e.front u.stream.decoded (g.K.Sink.written c.args.sink.now) u.written) e.exits (λ same_exit. e.cause (ap Err same_exit)))

pub returns-in-Refused-clause-run : goal.returns-in-Refused-clause-run
returns-in-Refused-clause-run g c =
    let u = c.loop-given.invariant.4 in
    let same = ap (λ files. told files c.args.name.now) c.loop-given.invariant.0 in
    let reads = reads_move c.loop-given.reader _ _ u.stream (sym same) u.reads in
    let has = refused_pictures _ _ u.stream.decoded c.in_ok-shown.field-0 c.in-Refused.offset c.in-Refused.large c.loop-given.reader c.next.new.self u.stream same reads c.in-Refused.is (c.in_ok-shown.ensures.answer u.stream reads) in
    let e = c.in_ok-end-in-Refused.ensures in
    end_refused _ u.stream.decoded c.in-Refused.offset c.in-Refused.large _ _ _ _ _ _ _ _ _ _ c.refusal.ensures c.loop-given.invariant.3 (c.in_ok-shown.ensures.faultless c.args.name.now ∙ c.loop-given.invariant.1) c.loop-given.invariant.2 has
    (e.written u.stream.decoded (g.K.Sink.written c.args.sink.now) u.written) e.faultless

-- ---- what is left of shelf and sink

pub returns-in_err-shown-clause-left : goal.returns-in_err-shown-clause-left
returns-in_err-shown-clause-left g c =
    let p = err_from_is_err_and c.from_residual.result c.from_residual.ensures.1 in
    rw (p.1, p.2) (left_reading c.in_err-shown.field-0.0 c.args.name.now _ _ _ _ _ c.loop-given.invariant.6 c.loop-given.invariant.5 c.loop-given.invariant.2 c.in_err-shown.ensures.alone c.in_err-shown.ensures.stops)

pub returns-in_err-picture-in-Picture-clause-left : goal.returns-in_err-picture-in-Picture-clause-left
returns-in_err-picture-in-Picture-clause-left g c =
    let q = err_from_is_err_and c.from_residual-in_err-picture-in-Picture.result c.from_residual-in_err-picture-in-Picture.ensures.1 in
    let read = read_more _ _ _ _ c.loop-given.invariant.6 c.in_ok-shown.ensures.alone in
    let same = same_more _ _ _ c.loop-given.invariant.5 c.in_ok-shown.ensures.faultless in
    rw (q.1, q.2) (left_writing c.in_err-picture-in-Picture.field-0.0 c.args.name.now _ _ _ _ _ read same c.loop-given.invariant.2 c.in_err-picture-in-Picture.ensures.stops)

pub returns-in-End-clause-left : goal.returns-in-End-clause-left
returns-in-End-clause-left g c =
    let read = read_more _ _ _ _ c.loop-given.invariant.6 c.in_ok-shown.ensures.alone in
    let same = same_more _ _ _ c.loop-given.invariant.5 c.in_ok-shown.ensures.faultless in
    left_by c.end.result c.args.name.now _ _ _ _ _ read same c.loop-given.invariant.2 c.end.ensures.faultless c.end.ensures.stops

pub returns-in_err-end-in-Refused-clause-left : goal.returns-in_err-end-in-Refused-clause-left
returns-in_err-end-in-Refused-clause-left g c =
    let q = err_from_is_err_and c.from_residual-in_err-end-in-Refused.result c.from_residual-in_err-end-in-Refused.ensures.1 in
    let read = read_more _ _ _ _ c.loop-given.invariant.6 c.in_ok-shown.ensures.alone in
    let same = same_more _ _ _ c.loop-given.invariant.5 c.in_ok-shown.ensures.faultless in
    rw (q.1, q.2) (left_writing c.in_err-end-in-Refused.field-0.0 c.args.name.now _ _ _ _ _ read same c.loop-given.invariant.2 c.in_err-end-in-Refused.ensures.stops)

pub returns-in-Refused-clause-left : goal.returns-in-Refused-clause-left
returns-in-Refused-clause-left g c =
    let read = read_more _ _ _ _ c.loop-given.invariant.6 c.in_ok-shown.ensures.alone in
    let same = same_more _ _ _ c.loop-given.invariant.5 c.in_ok-shown.ensures.faultless in
    let decided = subst IsDecided (sym c.refusal.ensures) (refusal_decided c.in-Refused.offset c.in-Refused.large) in
    left_decided c.refusal.result c.args.name.now _ _ _ _ decided read same (c.in_ok-end-in-Refused.ensures.faultless ∙ c.loop-given.invariant.2)
