use mir.Syntax.{w32}
use mir.Val.{SFits}
use Rattle.std.proofs.Common.{rules, ◌≡◌, ◌-◌, ◌∷◌, ℕ, List, ap, ◌∙◌, subst}
use Rattle.std.proofs.lemmas.Int.{to_z-of_z}
use Rattle.std.specs.Io.KnownBytes.{Appends}
use Rattle.access_units.specs.Pictures.{periods}
use Rattle.accepted_pictures.specs.Files.{Decoded, pictures_in}
use Rattle.file_pictures.specs.Streams.{Shows}
use Rattle.file_pictures.specs.declared.stream_decoder.DecodedPicture.{DecodedPicture}
use Rattle.vdplay.specs.Output.{line_with, picture_line}
use Rattle.vdplay.specs.Run.{AppendsFront}
use Rattle.vdplay.proofs.Texts.{nothing_front}
use Rattle.vdplay.proofs.line_writer.LineWriter.picture.Goals as goal

line_is : (decoded : List Decoded) (one : Decoded) (shown : DecodedPicture) (period : ℕ) (bytes text : List ℕ) → Shows shown one → period ≡ periods (pictures_in (one ∷ decoded)) - 1
    → bytes ≡ text → text ≡ line_with shown.offset period shown.poc → bytes ≡ picture_line decoded one
line_is decoded one shown period bytes text shows number first second =
    first ∙ second ∙ ap (λ (n : ℕ). line_with n period shown.poc) shows.offset ∙ ap (λ (n : ℕ). line_with one.picture.offset n shown.poc) number
    ∙ ap (line_with one.picture.offset (periods (pictures_in (one ∷ decoded)) - 1)) shows.poc

pub period_of-period-requires : goal.period_of-period-requires
period_of-period-requires g c = let r = c.requires in (r.0, (r.1.0, r.1.1, r.1.2, r.1.3.period))

pub returns-in_err-line-clause-front : goal.returns-in_err-line-clause-front
returns-in_err-line-clause-front g c = λ decoded one counts next shows. nothing_front (g.K.Sink.written c.args.sink.now) (picture_line decoded one)

pub returns-in_err-line-clause-periods : goal.returns-in_err-line-clause-periods
returns-in_err-line-clause-periods g c = λ decoded one counts next shows. c.period_of-period.ensures.periods decoded one counts next shows.period

pub returns-in_err-write_all-clause-front : goal.returns-in_err-write_all-clause-front
returns-in_err-write_all-clause-front g c = λ decoded one counts next shows.
    let fits : SFits w32 c.args.shown.poc = search rules in
    subst (AppendsFront (g.K.Sink.written c.args.sink.now) (g.K.Sink.written c.write_all.new.sink))
    (line_is decoded one c.args.shown c.period_of-period.result _ _ shows (c.period_of-period.ensures.number decoded one counts next shows.period) c.as_bytes.ensures.value (c.in_ok-line.ensures ∙ ap (line_with c.args.shown.offset c.period_of-period.result) (to_z-of_z w32 c.args.shown.poc fits)))
    c.write_all.ensures.front

pub returns-in_err-write_all-clause-periods : goal.returns-in_err-write_all-clause-periods
returns-in_err-write_all-clause-periods g c = λ decoded one counts next shows. c.period_of-period.ensures.periods decoded one counts next shows.period

pub returns-clause-line : goal.returns-clause-line
returns-clause-line g c = λ decoded one counts next shows.
    let fits : SFits w32 c.args.shown.poc = search rules in
    subst (Appends (g.K.Sink.written c.args.sink.now) (g.K.Sink.written c.write_all.new.sink))
    (line_is decoded one c.args.shown c.period_of-period.result _ _ shows (c.period_of-period.ensures.number decoded one counts next shows.period) c.as_bytes.ensures.value (c.in_ok-line.ensures ∙ ap (line_with c.args.shown.offset c.period_of-period.result) (to_z-of_z w32 c.args.shown.poc fits)))
    c.in_ok-write_all.ensures.all

pub returns-clause-front : goal.returns-clause-front
returns-clause-front g c = λ decoded one counts next shows.
    let fits : SFits w32 c.args.shown.poc = search rules in
    subst (AppendsFront (g.K.Sink.written c.args.sink.now) (g.K.Sink.written c.write_all.new.sink))
    (line_is decoded one c.args.shown c.period_of-period.result _ _ shows (c.period_of-period.ensures.number decoded one counts next shows.period) c.as_bytes.ensures.value (c.in_ok-line.ensures ∙ ap (line_with c.args.shown.offset c.period_of-period.result) (to_z-of_z w32 c.args.shown.poc fits)))
    c.write_all.ensures.front

pub returns-clause-periods : goal.returns-clause-periods
returns-clause-periods g c = λ decoded one counts next shows. c.period_of-period.ensures.periods decoded one counts next shows.period
