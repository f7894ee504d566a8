use Rattle.std.proofs.Common.{sym, subst, append-nil}
use Rattle.std.specs.Io.KnownBytes.{Appends}
use Rattle.std.proofs.KnownBytes.{Appends-trans}
use Rattle.vdplay.specs.Output.{last_line, picture_lines, planes_in_order, text_of}
use Rattle.vdplay.specs.Reports.{HasWritten, command_of}
use Rattle.vdplay.specs.Run.{AppendsFront}
use Rattle.vdplay.specs.declared.report.Report.{Report}
use Rattle.vdplay.proofs.Texts.{front_after, on_ok_then}
use Rattle.vdplay.proofs.report.Report.end.Goals as goal

pub end-requires : goal.end-requires
end-requires g c =
    let r = c.requires in
    let W : Report → Type 0 = λ report. HasWritten report r.0 r.1.0 (g.K.Sink.written c.args.sink.now) in
    let w = subst W c.in-Planes.is r.1.1 in
    (r.0, (w.0, w.1))

pub returns-in-Planes-clause-written : goal.returns-in-Planes-clause-written
returns-in-Planes-clause-written g c = on_ok_then c.end.result _ _
    (λ go decoded start written.
    let W : Report → Type 0 = λ report. HasWritten report decoded start (g.K.Sink.written c.args.sink.now) in
    let w = subst W c.in-Planes.is written in
    let T : Report → Type 0 = λ report. Appends start (g.K.Sink.written c.end.new.sink) (text_of (command_of report) decoded c.args.refused) in
    subst T (sym c.in-Planes.is) (subst (Appends start (g.K.Sink.written c.end.new.sink)) (sym (append-nil (planes_in_order decoded))) (go decoded w.0 start w.1 w.2)))
    c.end.ensures.written

pub returns-in-Planes-clause-front : goal.returns-in-Planes-clause-front
returns-in-Planes-clause-front g c = λ decoded start written.
    let W : Report → Type 0 = λ report. HasWritten report decoded start (g.K.Sink.written c.args.sink.now) in
    let w = subst W c.in-Planes.is written in
    let T : Report → Type 0 = λ report. AppendsFront start (g.K.Sink.written c.end.new.sink) (text_of (command_of report) decoded c.args.refused) in
    subst T (sym c.in-Planes.is) (subst (AppendsFront start (g.K.Sink.written c.end.new.sink)) (sym (append-nil (planes_in_order decoded))) (c.end.ensures.front decoded w.0 start w.1 w.2))

pub returns-in-Lines-clause-written : goal.returns-in-Lines-clause-written
returns-in-Lines-clause-written g c = on_ok_then c.end-in-Lines.result _ _
    (λ go decoded start written.
    let W : Report → Type 0 = λ report. HasWritten report decoded start (g.K.Sink.written c.args.sink.now) in
    let w = subst W c.in-Lines.is written in
    let T : Report → Type 0 = λ report. Appends start (g.K.Sink.written c.end-in-Lines.new.sink) (text_of (command_of report) decoded c.args.refused) in
    subst T (sym c.in-Lines.is) (Appends-trans start (g.K.Sink.written c.args.sink.now) (g.K.Sink.written c.end-in-Lines.new.sink) (picture_lines decoded) (last_line c.args.refused) w.1 go))
    c.end-in-Lines.ensures.line

pub returns-in-Lines-clause-front : goal.returns-in-Lines-clause-front
returns-in-Lines-clause-front g c = λ decoded start written.
    let W : Report → Type 0 = λ report. HasWritten report decoded start (g.K.Sink.written c.args.sink.now) in
    let w = subst W c.in-Lines.is written in
    let T : Report → Type 0 = λ report. AppendsFront start (g.K.Sink.written c.end-in-Lines.new.sink) (text_of (command_of report) decoded c.args.refused) in
    subst T (sym c.in-Lines.is) (front_after start (g.K.Sink.written c.args.sink.now) (g.K.Sink.written c.end-in-Lines.new.sink) (picture_lines decoded) (last_line c.args.refused) w.1 c.end-in-Lines.ensures.front)
