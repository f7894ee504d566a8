use Rattle.std.proofs.Common.{◌≡◌, List, ℕ, true, sym, ap, subst}
use Rattle.driver_jobs.specs.Mixes.{done_size}
use Rattle.driver_core.specs.Owed.{OwesPixels}
use Rattle.driver_core.specs.Stands.{is_ok}
use Rattle.driver_core.proofs.EndedJobs.{none_home, target_there}
use Rattle.driver_core.proofs.driver.Core.hand_pixels.Goals as goal

pub returns-in-Some : goal.returns-in-Some
returns-in-Some c d note stands out owes =
    let core = c.args.self.now in
    let done = c.args.done in
    let ok : is_ok note.outcome ≡ true = ap is_ok owes.0 in
    let target = target_there core d note c.in-Some.index c.args.done.number c.number.result c.number.ensures stands out c.in-Some.ensures.targets in
    let its : OwesPixels d note c.size-size.result c.pixels.result.items =
    subst (λ size. OwesPixels d note size c.pixels.result.items) (sym c.size-size.ensures) (subst (λ (p : List ℕ). OwesPixels d note (done_size done) p) (sym c.pixels.ensures.pixels) owes.1) in
    let given = c.give_pixels.ensures d note target.0 done.number stands out ok target.1 target.2 its in
    (given.0, λ is. given.1)

pub returns-in_default : goal.returns-in_default
returns-in_default c d note stands out owes =
    (stands, λ is. none_home c.args.self.now d note c.args.done.number c.number.result c.number.ensures stands out c.in_default.ensures.targets)
