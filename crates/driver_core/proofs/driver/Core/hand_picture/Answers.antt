use Rattle.std.proofs.Common.{◌≡◌, true, sym, ap, ◌∙◌, subst}
use Rattle.driver_jobs.specs.Renders.{done_size}
use Rattle.driver_core.specs.Owed.{OwesPicture}
use Rattle.driver_core.specs.Stands.{is_ok}
use Rattle.driver_core.proofs.EndedJobs.{ok_is, target_there, none_home}
use Rattle.driver_core.proofs.driver.Core.hand_picture.Goals as goal

pub returns-in-Some : goal.returns-in-Some
returns-in-Some c d note stands out owes =
    let core = c.args.self.now in
    let done = c.args.done in
    let ok : is_ok note.outcome ≡ true = ap is_ok (owes.0 ∙ (sym c.outcome.ensures ∙ c.in-Ok.is)) in
    let target = target_there core d note c.in-Some.index c.args.done.number c.number.result c.number.ensures stands out c.in-Some.ensures.targets in
    let its : OwesPicture d note c.size-size.result c.picture.result =
    subst (λ size. OwesPicture d note size c.picture.result) (sym c.size-size.ensures) (subst (λ p. OwesPicture d note (done_size done) p) (sym c.picture.ensures.picture) owes.1) in
    let given = c.give_picture.ensures d note target.0 done.number stands out ok target.1 target.2 its in
    (given.0, λ is. given.1)

pub returns-in_default-target_of : goal.returns-in_default-target_of
returns-in_default-target_of c d note stands out owes =
    (stands, λ is. none_home c.args.self.now d note c.args.done.number c.number.result c.number.ensures stands out c.in_default-target_of.ensures.targets)

pub returns-in_default : goal.returns-in_default
returns-in_default c d note stands out owes = (stands, λ is. absurd (c.in_default.not-Ok (c.outcome.ensures ∙ (sym owes.0 ∙ ok_is note.outcome is))))
