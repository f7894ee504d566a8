use Rattle.std.proofs.Common.{◌∙◌, ◌++◌, ◌∷◌, [], None, refl, ap}
use Rattle.vdplay.specs.Output.{planes_of}
use Rattle.vdplay.specs.Reports.{with_out}
use Rattle.vdplay.proofs.HoldLemmas.{write_more, write_part}
use Rattle.vdplay.proofs.Texts.{on_err_any}
use Rattle.vdplay.proofs.plane_writer.PlaneWriter.write_settled.Goals as goal

pub loop-samples-init : goal.loop-samples-init
loop-samples-init g c = (refl, refl, λ decoded h start holds written. (h.out, holds, written))

pub next_out-requires : goal.next_out-requires
next_out-requires g c = let r = c.requires in let more = c.loop-samples.invariant.2 r.0 r.1.0 None r.1.1 tt in (r.0, (_, more.1))

pub returns-in_err-write_picture-clause-front : goal.returns-in_err-write_picture-clause-front
returns-in_err-write_picture-clause-front g c = on_err_any c.from_residual.result _ (λ decoded h start holds written.
    let before = c.loop-samples.invariant.2 decoded h start holds written in
    let out = c.in-Some.ensures.next decoded (with_out h before.0) before.1 in (
      before.0 ++ out.number ∷ [],
      out.holds,
      write_part start (g.K.Sink.written c.loop-samples.sink) (g.K.Sink.written c.write_picture.new.sink) decoded before.0 out.number _ before.2 c.write_picture.ensures.front (ap planes_of c.deref.ensures ∙ out.planes),
    ))

pub loop-samples-preserved : goal.loop-samples-preserved
loop-samples-preserved g c = (
  c.next_out.ensures.count ∙ c.loop-samples.invariant.0,
  c.in_ok-write_picture.ensures.faultless ∙ c.loop-samples.invariant.1,
  λ decoded h start holds written.
      let before = c.loop-samples.invariant.2 decoded h start holds written in
      let out = c.in-Some.ensures.next decoded (with_out h before.0) before.1 in (
        before.0 ++ out.number ∷ [],
        out.holds,
        write_more start (g.K.Sink.written c.loop-samples.sink) (g.K.Sink.written c.write_picture.new.sink) decoded before.0 out.number _ before.2 c.in_ok-write_picture.ensures.written
            (ap planes_of c.deref.ensures ∙ out.planes),
      ),
)

pub returns-clause-written : goal.returns-clause-written
returns-clause-written g c = λ decoded h start holds written.
    let before = c.loop-samples.invariant.2 decoded h start holds written in
    let none = c.in_default.ensures.none decoded (with_out h before.0) before.1 in
    (before.0, none.1, none.0, before.2)
