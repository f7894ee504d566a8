use Rattle.std.proofs.Common.{◌∙◌, ap, arith, inr}
use Rattle.std.specs.Option.{option_and_then}
use Rattle.driver_model.specs.Objects.{Object, as_queue}
use Rattle.plain_driver.specs.States.{state_of}
use Rattle.plain_driver.proofs.Changed.{length-objects_of}
use Rattle.plain_driver.proofs.QueueLooks.{display-at, display_has_room}
use Rattle.plain_driver.proofs.QueueSteps.{queue_displays}
use Rattle.plain_driver.proofs.driver.Plain.queue_display.Goals as goal

pub line_up-requires-clause-place : goal.line_up-requires-clause-place
line_up-requires-clause-place c =
    let on = display-at (state_of c.args.self.now) c.args.queue c.args.surface c.args.earliest c.in_ok-on.on c.in_ok-on.ensures in
    omega (arith, on.below, length-objects_of c.args.self.now.objects.items)

pub line_up-requires-clause-room : goal.line_up-requires-clause-room
line_up-requires-clause-room c =
    λ object at of is. display_has_room (state_of c.args.self.now) c.args.queue c.args.surface c.args.earliest c.in_ok-on.on c.in_ok-on.ensures of (ap (option_and_then (λ (o : Object). as_queue o.content)) at ∙ is)

pub returns : goal.returns
returns c = λ caller. inr (queue_displays (state_of c.args.self.now) c.args.queue c.args.surface c.args.earliest c.in_ok-on.on (state_of c.line_up.new.self) c.in_ok-on.ensures c.line_up.ensures)
