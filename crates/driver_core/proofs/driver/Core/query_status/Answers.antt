use Rattle.std.proofs.Common.{◌≡◌, Ok, sym, ap, ◌∙◌, inr, refl}
use Rattle.driver_model.specs.Presented.{first_time, status_at}
use Rattle.driver_model.specs.declared.replies.Answer.TheVariants.{Status}
use Rattle.driver_core.proofs.Steps.{finding}
use Rattle.driver_core.proofs.driver.Core.query_status.Goals as goal

pub returns-in-Ok : goal.returns-in-Ok
returns-in-Ok c d caller stands =
    let p = c.in-Ok.ensures.finds d stands in
    let status : c.status.result ≡ status_at d p.found.surface.place = c.status.ensures d p.object stands p.there ∙ ap (status_at d) (sym p.output) in
    let time : c.first_time.result ≡ first_time d p.found.queue.place p.found.surface.place =
    c.first_time.ensures d p.object stands p.there ∙ (λ i. first_time d (sym p.queue i) (sym p.output i)) in
    record { after = d; step = inr (finding _ _ _ _ p.looks (λ i. Ok (Status (record { status = status i; first_time = time i })), refl)); stands = stands }
