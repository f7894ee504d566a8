use Rattle.std.proofs.Common.{◌∙◌, ap, sym}
use Rattle.std.specs.Option.{is_some}
use Rattle.driver_model.specs.Objects.{as_queue}
use Rattle.driver_model.specs.Wishes.{wish_holds}
use Rattle.plain_driver.specs.States.{presentation_of, state_of}
use Rattle.plain_driver.proofs.WishSteps.{promise_past, used_content}
use Rattle.plain_driver.proofs.driver.Plain.wish_holds.Goals as goal

pub queue_in-requires : goal.queue_in-requires
queue_in-requires c = ap is_some (used_content as_queue c.in-PromisePast.queue (state_of c.args.self.now) c.args.arg c.in_ok-place-in-PromisePast.place c.in_ok-place-in-PromisePast.ensures).2

pub returns-in_ok-place-in-PromisePast : goal.returns-in_ok-place-in-PromisePast
returns-in_ok-place-in-PromisePast c =
    let s = state_of c.args.self.now in
    promise_past s c.args.arg c.in-PromisePast.queue c.in-PromisePast.time c.in_ok-place-in-PromisePast.place (presentation_of c.queue_in.result.now) c.in_ok-place-in-PromisePast.ensures c.queue_in.ensures
    ∙ ap (wish_holds s c.args.arg) (sym c.in-PromisePast.is)
