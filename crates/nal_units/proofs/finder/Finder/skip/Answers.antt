use Rattle.std.proofs.Common.{◌∙◌, ap, refl}
use Rattle.nal_units.specs.declared.finder.Phase.TheVariants as phase
use Rattle.nal_units.proofs.Skipping.{no_more, no_more_stands, skip_stands, skip_quiet, skip_unbroken}
use Rattle.nal_units.proofs.finder.Finder.skip.Goals as goal

pub returns-in-Inside-clause-stands : goal.returns-in-Inside-clause-stands
returns-in-Inside-clause-stands c = λ t stands.
    let is = c.in-Inside.is ∙ ap (λ z. phase.Inside c.in-Inside.start z) c.if-zeros-eq0.true in
    skip_stands c.args.self.now t c.args.bytes.now c.in-Inside.start c.plain_len-skipped.result is c.plain_len-skipped.ensures.below
    (λ s. c.plain_len-skipped.ensures.stands t s c.in-Inside.start) stands

pub returns-in-Inside-clause-quiet : goal.returns-in-Inside-clause-quiet
returns-in-Inside-clause-quiet c = λ t s stands known.
    let is = c.in-Inside.is ∙ ap (λ z. phase.Inside c.in-Inside.start z) c.if-zeros-eq0.true in
    skip_quiet c.args.self.now t c.args.bytes.now s c.in-Inside.start c.plain_len-skipped.result is
    (λ u. c.plain_len-skipped.ensures.quiet t u c.in-Inside.start) stands known

pub returns-in-Inside-clause-broken : goal.returns-in-Inside-clause-broken
returns-in-Inside-clause-broken c = λ t s at stands known.
    let is = c.in-Inside.is ∙ ap (λ z. phase.Inside c.in-Inside.start z) c.if-zeros-eq0.true in
    absurd (skip_unbroken c.args.self.now t s c.in-Inside.start at is stands known)

pub returns-in_default-clause-quiet : goal.returns-in_default-clause-quiet
returns-in_default-clause-quiet c = λ t s stands known. no_more t c.args.bytes.now s known

pub returns-in_default-2 : goal.returns-in_default-2
returns-in_default-2 c = record {
  below = c.requires.some;
  stands = no_more_stands c.args.self.now;
  quiet = λ t s stands known. no_more t c.args.bytes.now s known;
  broken = λ t s at stands known. refl;
}
