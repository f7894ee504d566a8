use Rattle.std.proofs.Common.{◌-◌, arith, subst}
use Rattle.nal_units.specs.Finder.{IsPhase}
use Rattle.nal_units.specs.declared.finder.Phase.{Phase}
use Rattle.nal_units.proofs.Steps.{inside_len}
use Rattle.nal_units.proofs.Pushing.{finish_outside, finish_inside, finish_broken}
use Rattle.nal_units.proofs.finder.Finder.finish.Goals as goal

pub overflow_sub-self : goal.overflow_sub-self
overflow_sub-self c =
    let stands = c.requires.1 in
    let P : Phase → Type 0 = λ ph. IsPhase ph c.requires.0 stands.0 in
    let len = inside_len c.requires.0 stands.0 c.in-Inside.start c.in-Inside.zeros (subst P c.in-Inside.is stands.1.phase) in
    let counted = stands.1.counted in
    omega arith

pub returns-in-Outside : goal.returns-in-Outside
returns-in-Outside c = λ t u broken stands known.
    let P : Phase → Type 0 = λ ph. IsPhase ph t stands.0 in
    finish_outside t stands.0 u _ broken (subst P c.in-Outside.is stands.1.phase) known

pub returns-in-Inside : goal.returns-in-Inside
returns-in-Inside c = λ t u broken stands known.
    let P : Phase → Type 0 = λ ph. IsPhase ph t stands.0 in
    let inside = subst P c.in-Inside.is stands.1.phase in
    let len = inside_len t stands.0 c.in-Inside.start c.in-Inside.zeros inside in
    let counted = stands.1.counted in
    finish_inside t stands.0 u c.in-Inside.start c.in-Inside.zeros (c.args.self.now.position - c.from.result) broken _ inside (omega arith) c.last.ensures.empty c.last.ensures.some known

pub returns-in-Broken : goal.returns-in-Broken
returns-in-Broken c = λ t u broken stands known.
    let P : Phase → Type 0 = λ ph. IsPhase ph t stands.0 in
    finish_broken t stands.0 u _ broken (subst P c.in-Broken.is stands.1.phase) known
