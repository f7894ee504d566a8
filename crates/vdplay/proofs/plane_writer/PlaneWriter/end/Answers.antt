use Rattle.std.proofs.Common.{refl, subst}
use Rattle.std.specs.Io.KnownBytes.{Appends}
use Rattle.output_order.specs.OutputOrder.{ending}
use Rattle.vdplay.specs.Output.{planes_in_order}
use Rattle.vdplay.specs.Reports.{with_out}
use Rattle.vdplay.specs.Run.{AppendsFront}
use Rattle.vdplay.proofs.HoldLemmas.{all_out, ended_holds, settled_front}
use Rattle.vdplay.proofs.Texts.{by_result, on_err_then, on_ok_then, whole_front}
use Rattle.vdplay.proofs.plane_writer.PlaneWriter.end.Goals as goal

pub write_settled-requires : goal.write_settled-requires
write_settled-requires g c = let r = c.requires in
    (r.0, (ending r.1.0, ended_holds c.args.self.now _ r.0 r.1.0 r.1.1.stands.holds (c.end.ensures r.1.0 r.1.1.stands.holds.waiting) refl))

pub returns-clause-written : goal.returns-clause-written
returns-clause-written g c = on_ok_then c.write_settled.result _ _
    (λ settles decoded h start calm written.
    let holds = ended_holds c.args.self.now _ decoded h calm.stands.holds (c.end.ensures h calm.stands.holds.waiting) refl in
    let done = settles decoded (ending h) start holds written in
    subst (Appends start (g.K.Sink.written c.write_settled.new.sink)) (all_out c.write_settled.new.self decoded (with_out (ending h) done.0) done.1 refl done.2) done.3)
    c.write_settled.ensures.written

pub returns-clause-front : goal.returns-clause-front
returns-clause-front g c = λ decoded h start calm written.
    let holds = ended_holds c.args.self.now _ decoded h calm.stands.holds (c.end.ensures h calm.stands.holds.waiting) refl in
    by_result c.write_settled.result (AppendsFront start (g.K.Sink.written c.write_settled.new.sink) (planes_in_order decoded))
    (on_ok_then c.write_settled.result _ _
    (λ settles.
    let done = settles decoded (ending h) start holds written in
    whole_front start (g.K.Sink.written c.write_settled.new.sink) (planes_in_order decoded)
    (subst (Appends start (g.K.Sink.written c.write_settled.new.sink)) (all_out c.write_settled.new.self decoded (with_out (ending h) done.0) done.1 refl done.2) done.3))
    c.write_settled.ensures.written)
    (on_err_then c.write_settled.result _ _
    (λ parts.
    let part = parts decoded (ending h) start holds written in
    settled_front c.write_settled.new.self decoded (with_out (ending h) part.0) start (g.K.Sink.written c.write_settled.new.sink) part.1 part.2)
    c.write_settled.ensures.front)
