use Rattle.std.proofs.Common.{get_or, refl}
use Rattle.driver_model.specs.Clock.{all_shown}
use Rattle.plain_driver.specs.States.{state_of}
use Rattle.plain_driver.proofs.Loops.{show_more}
use Rattle.plain_driver.specs.declared.queues.Places.{Places}
use Rattle.plain_driver.proofs.driver.Plain.show_all.Goals as goal

pub loop-due-init : goal.loop-due-init
unfolding all_shown
loop-due-init c = refl

pub loop-due-preserved : goal.loop-due-preserved
loop-due-preserved c =
    let none : Places = record { queue = 0; surface = 0 } in
    show_more c.args.time c.args.dues.now c.loop-due.due-index none (get_or c.args.dues.now c.loop-due.due-index none) (state_of c.args.self.now) (state_of c.loop-due.self) (state_of c.tick.new.self) (state_of c.flip_to.new.self)
    c.loop-due-test.true refl c.loop-due.invariant c.tick.ensures c.flip_to.ensures
