use Rattle.std.proofs.Common.{◌∙◌}
use Rattle.vdplay.proofs.Fronts.{appends_more, rest_from}
use Rattle.vdplay.proofs.writing.write_all.Goals as goal

pub loop-written-preserved : goal.loop-written-preserved
loop-written-preserved g c =
    let e = c.in_ok-written.ensures in
    let more = appends_more (g.K.Sink.written c.args.sink.now) (g.K.Sink.written c.loop-written.sink) (g.K.Sink.written c.write.new.self) c.args.bytes.now _ c.loop-written.written c.in_ok-written.field-0 (rest_from c.loop-written.written c.args.bytes.now) e.count c.loop-written.invariant.0 c.loop-written.invariant.2 e.appended in
    (more.0, e.no_fault ∙ c.loop-written.invariant.1, more.1)
