use Rattle.std.proofs.Common.{◌∙◌, ap}
use Rattle.std.proofs.lemmas.Result.{err_from_is_err_and}
use Rattle.driver_model.specs.Objects.{as_output}
use Rattle.driver_model.specs.Refusals.{further_handle}
use Rattle.driver_model.specs.States.{named}
use Rattle.plain_driver.specs.Looks.{placed}
use Rattle.plain_driver.specs.States.{state_of}
use Rattle.plain_driver.proofs.QueueLooks.{presented-err, presented-ok}
use Rattle.plain_driver.proofs.driver.Plain.presented.Goals as goal

pub returns-in_err-surface : goal.returns-in_err-surface
returns-in_err-surface c =
    let s = state_of c.args.self.now in
    let p = err_from_is_err_and c.from_residual-in_err-surface.result c.from_residual-in_err-surface.ensures.1 in
    rw (p.1, p.2) (presented-err s c.args.queue c.args.surface c.in_ok-queue.queue c.in_err-surface.field-0.0 c.in_ok-queue.ensures (c.in_err-surface.ensures ∙ ap (λ d. placed (further_handle 1 d (named s as_output c.args.surface))) c.device_at.ensures))

pub returns : goal.returns
returns c =
    let s = state_of c.args.self.now in
    presented-ok s c.args.queue c.args.surface c.in_ok-queue.queue c.in_ok-surface.surface c.in_ok-queue.ensures (c.in_ok-surface.ensures ∙ ap (λ d. placed (further_handle 1 d (named s as_output c.args.surface))) c.device_at.ensures)
