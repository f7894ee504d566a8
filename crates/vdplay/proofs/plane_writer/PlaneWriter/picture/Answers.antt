use Rattle.std.proofs.Common.{◌∷◌, sym, subst}
use Rattle.std.specs.Io.KnownBytes.{Appends}
use Rattle.vdplay.specs.Reports.{AppendsAhead, planes_out, pushed_by, with_out}
use Rattle.vdplay.specs.declared.command_line.Command.TheVariants.{Decode}
use Rattle.vdplay.proofs.AheadLemmas.{ahead_of_next, calm_ahead, out_ahead}
use Rattle.vdplay.proofs.HoldLemmas.{calm_behind, planes_out_pushed}
use Rattle.vdplay.proofs.Texts.{by_result, on_err_then, on_ok_then, whole_front}
use Rattle.vdplay.proofs.plane_writer.PlaneWriter.picture.Goals as goal

pub hold-requires : goal.hold-requires
hold-requires g c = c.requires

pub returns-in_err-hold-clause-front : goal.returns-in_err-hold-clause-front
returns-in_err-hold-clause-front g c = λ decoded one h start calm next shows written.
    ahead_of_next start (g.K.Sink.written c.args.sink.now) Decode decoded one next (calm_ahead c.args.self.now decoded h start (g.K.Sink.written c.args.sink.now) calm written)

pub write_settled-requires : goal.write_settled-requires
write_settled-requires g c = let r = c.requires in
    (r.1.0 ∷ r.0, (pushed_by r.1.1.0 r.0 r.1.0, (c.in_ok-hold.ensures.held r.0 r.1.0 r.1.1.0 r.1.1.1 r.1.1.2 r.1.1.3).holds))

pub returns-clause-written : goal.returns-clause-written
returns-clause-written g c = on_ok_then c.write_settled.result _ _
    (λ settles decoded one h start calm next shows written.
    let stands = c.in_ok-hold.ensures.held decoded one h calm next shows in
    let done = settles (one ∷ decoded) (pushed_by h decoded one) start stands.holds (subst (Appends start (g.K.Sink.written c.args.sink.now)) (sym (planes_out_pushed c.args.self.now decoded one h calm)) written) in
    (with_out (pushed_by h decoded one) done.0, calm_behind c.hold.new.self c.write_settled.new.self (one ∷ decoded) (pushed_by h decoded one) done.0 stands done.1 done.2 c.write_settled.ensures.count, done.3))
    c.write_settled.ensures.written

pub returns-clause-front : goal.returns-clause-front
returns-clause-front g c = λ decoded one h start calm next shows written.
    let stands = c.in_ok-hold.ensures.held decoded one h calm next shows in
    let more = subst (Appends start (g.K.Sink.written c.args.sink.now)) (sym (planes_out_pushed c.args.self.now decoded one h calm)) written in
    let after = g.K.Sink.written c.write_settled.new.sink in
    let pushed = pushed_by h decoded one in
    by_result c.write_settled.result (AppendsAhead start after Decode (one ∷ decoded))
    (on_ok_then c.write_settled.result _ _
    (λ settles.
    let done = settles (one ∷ decoded) pushed start stands.holds more in
    out_ahead c.hold.new.self c.write_settled.new.self (one ∷ decoded) pushed done.0 start after stands done.1 (whole_front start after (planes_out (one ∷ decoded) (with_out pushed done.0)) done.3))
    c.write_settled.ensures.written)
    (on_err_then c.write_settled.result _ _
    (λ parts.
    let part = parts (one ∷ decoded) pushed start stands.holds more in
    out_ahead c.hold.new.self c.write_settled.new.self (one ∷ decoded) pushed part.0 start after stands part.1 part.2)
    c.write_settled.ensures.front)
