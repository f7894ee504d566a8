use Rattle.driver_core.proofs.ClockTicks.{clock_finds}
use Rattle.driver_core.proofs.driver.Core.clock.Goals as goal

pub returns-clause-finds : goal.returns-clause-finds
returns-clause-finds c d stands =
    clock_finds c.args.self.now d c.args.device c.args.time c.in_ok-index.index c.in_ok-index.of stands (c.in_ok-index.ensures.finds d stands) c.if-time-of.false c.object.result.now c.object.ensures
