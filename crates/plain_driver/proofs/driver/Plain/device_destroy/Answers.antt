use Rattle.std.proofs.Common.{◌∙◌, ap, inr, sym, List}
use Rattle.driver_model.proofs.Changes.{names, names-destroyed}
use Rattle.driver_model.specs.Objects.{Object}
use Rattle.driver_model.specs.States.{State}
use Rattle.plain_driver.specs.States.{objects_of, state_of}
use Rattle.plain_driver.proofs.ClockSteps.{device_destroyed, device_unknown}
use Rattle.plain_driver.proofs.Numbering.{IsNumbered-same}
use Rattle.plain_driver.proofs.driver.Plain.device_destroy.Goals as goal

pub returns-in_default : goal.returns-in_default
returns-in_default c = λ caller. inr (device_unknown (state_of c.args.self.now) c.args.device (sym c.in_default.ensures))

pub invariant_of-self : goal.invariant_of-self
invariant_of-self c = record {
  numbered = IsNumbered-same c.args.self.now.objects.items c.destroy_on.new.objects.items (ap names c.destroy_on.ensures ∙ names-destroyed c.in-Some.place (objects_of c.args.self.now.objects.items)) c.args.self.now.numbered;
}

pub returns : goal.returns
returns c = λ caller. inr (device_destroyed (state_of c.args.self.now) c.args.device c.in-Some.place _ (sym c.in-Some.ensures) (ap (λ (o : List Object). let t : State = record (state_of c.args.self.now) { objects = o } in t) c.destroy_on.ensures))
