use Rattle.vdplay.proofs.Texts.{cb_front, cr_front, y_front}
use Rattle.vdplay.proofs.plane_writer.write_picture.Goals as goal

pub returns-in_err-write_all-clause-front : goal.returns-in_err-write_all-clause-front
returns-in_err-write_all-clause-front g c = y_front (g.K.Sink.written c.args.sink.now) (g.K.Sink.written c.write_all.new.sink) _ _ _ _ c.samples.ensures.samples c.write_all.ensures.front

pub returns-in_err-write_all-2-clause-front : goal.returns-in_err-write_all-2-clause-front
returns-in_err-write_all-2-clause-front g c =
    cb_front (g.K.Sink.written c.args.sink.now) (g.K.Sink.written c.write_all.new.sink) (g.K.Sink.written c.write_all-2.new.sink) _ _ _ _ _ c.samples.ensures.samples c.samples-2.ensures.samples c.in_ok-write_all.ensures.all c.write_all-2.ensures.front

pub returns-in_err-write_all-3-clause-front : goal.returns-in_err-write_all-3-clause-front
returns-in_err-write_all-3-clause-front g c =
    cr_front (g.K.Sink.written c.args.sink.now) (g.K.Sink.written c.write_all.new.sink) (g.K.Sink.written c.write_all-2.new.sink) (g.K.Sink.written c.write_all-3.new.sink) _ _ _ _ _ _
    c.samples.ensures.samples c.samples-2.ensures.samples c.samples-3.ensures.samples c.in_ok-write_all.ensures.all c.in_ok-write_all-2.ensures.all c.write_all-3.ensures.front

pub returns-clause-front : goal.returns-clause-front
returns-clause-front g c =
    cr_front (g.K.Sink.written c.args.sink.now) (g.K.Sink.written c.write_all.new.sink) (g.K.Sink.written c.write_all-2.new.sink) (g.K.Sink.written c.write_all-3.new.sink) _ _ _ _ _ _
    c.samples.ensures.samples c.samples-2.ensures.samples c.samples-3.ensures.samples c.in_ok-write_all.ensures.all c.in_ok-write_all-2.ensures.all c.write_all-3.ensures.front
