use Rattle.std.proofs.Common.{◌∷◌, sym, ap, subst}
use Rattle.std.specs.Io.KnownBytes.{Appends}
use Rattle.std.proofs.KnownBytes.{Appends-trans}
use Rattle.vdplay.specs.Output.{picture_line, picture_lines}
use Rattle.vdplay.specs.Reports.{AppendsAhead, HasWritten, command_of}
use Rattle.vdplay.specs.Run.{AppendsFront}
use Rattle.vdplay.specs.declared.report.Report.{Report}
use Rattle.vdplay.proofs.AheadLemmas.{lines_ahead, lines_more}
use Rattle.vdplay.proofs.Texts.{front_after, on_ok_then}
use Rattle.vdplay.proofs.report.Report.picture.Goals as goal

pub picture-requires : goal.picture-requires
picture-requires g c =
    let r = c.requires in
    let W : Report → Type 0 = λ report. HasWritten report r.0 r.1.1.0 (g.K.Sink.written c.args.sink.now) in
    let w = subst W c.in-Planes.is r.1.1.1 in
    (r.0, (r.1.0, (w.0, w.1, r.1.1.2, r.1.1.3)))

pub picture-requires-in-Lines : goal.picture-requires-in-Lines
picture-requires-in-Lines g c =
    let r = c.requires in
    let W : Report → Type 0 = λ report. HasWritten report r.0 r.1.1.0 (g.K.Sink.written c.args.sink.now) in
    let w = subst W c.in-Lines.is r.1.1.1 in
    (r.0, (r.1.0, w.0, r.1.1.2, r.1.1.3))

pub returns-in-Planes-clause-written : goal.returns-in-Planes-clause-written
returns-in-Planes-clause-written g c = on_ok_then c.picture.result _ _
    (λ go decoded one start written next shows.
    let W : Report → Type 0 = λ report. HasWritten report decoded start (g.K.Sink.written c.args.sink.now) in
    let w = subst W c.in-Planes.is written in
    go decoded one w.0 start w.1 next shows w.2)
    c.picture.ensures.written

pub returns-in-Planes-clause-front : goal.returns-in-Planes-clause-front
returns-in-Planes-clause-front g c = λ decoded one start written next shows.
    let W : Report → Type 0 = λ report. HasWritten report decoded start (g.K.Sink.written c.args.sink.now) in
    let w = subst W c.in-Planes.is written in
    let T : Report → Type 0 = λ report. AppendsAhead start (g.K.Sink.written c.picture.new.sink) (command_of report) (one ∷ decoded) in
    subst T (sym c.in-Planes.is) (c.picture.ensures.front decoded one w.0 start w.1 next shows w.2)

pub returns-in-Planes-clause-command : goal.returns-in-Planes-clause-command
returns-in-Planes-clause-command g c = ap command_of (sym c.in-Planes.is)

pub returns-in-Lines-clause-written : goal.returns-in-Lines-clause-written
returns-in-Lines-clause-written g c = on_ok_then c.picture-in-Lines.result _ _
    (λ go decoded one start written next shows.
    let W : Report → Type 0 = λ report. HasWritten report decoded start (g.K.Sink.written c.args.sink.now) in
    let w = subst W c.in-Lines.is written in (
      c.picture-in-Lines.ensures.periods decoded one w.0 next shows,
      subst (Appends start (g.K.Sink.written c.picture-in-Lines.new.sink)) (sym (lines_more one decoded))
          (Appends-trans start (g.K.Sink.written c.args.sink.now) (g.K.Sink.written c.picture-in-Lines.new.sink) (picture_lines decoded) (picture_line decoded one) w.1 (go decoded one w.0 next shows)),
    ))
    c.picture-in-Lines.ensures.line

pub returns-in-Lines-clause-front : goal.returns-in-Lines-clause-front
returns-in-Lines-clause-front g c = λ decoded one start written next shows.
    let W : Report → Type 0 = λ report. HasWritten report decoded start (g.K.Sink.written c.args.sink.now) in
    let w = subst W c.in-Lines.is written in
    let T : Report → Type 0 = λ report. AppendsAhead start (g.K.Sink.written c.picture-in-Lines.new.sink) (command_of report) (one ∷ decoded) in
    subst T (sym c.in-Lines.is)
    (lines_ahead start (g.K.Sink.written c.picture-in-Lines.new.sink) (one ∷ decoded)
    (subst (AppendsFront start (g.K.Sink.written c.picture-in-Lines.new.sink)) (sym (lines_more one decoded))
    (front_after start (g.K.Sink.written c.args.sink.now) (g.K.Sink.written c.picture-in-Lines.new.sink) (picture_lines decoded) (picture_line decoded one) w.1 (c.picture-in-Lines.ensures.front decoded one w.0 next shows))))

pub returns-in-Lines-clause-command : goal.returns-in-Lines-clause-command
returns-in-Lines-clause-command g c = ap command_of (sym c.in-Lines.is)
