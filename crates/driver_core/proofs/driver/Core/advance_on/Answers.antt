use Rattle.std.proofs.Common.{◌≡◌, inl, false, refl, sym, ◌∙◌}
use Rattle.driver_model.specs.Clock.{ticked_at}
use Rattle.driver_core.specs.Clocked.{AreDue, is_any_out}
use Rattle.driver_core.proofs.ClockTicks.{tick_steps, tick_waits}
use Rattle.driver_core.proofs.DueQueues.{dues_of}
use Rattle.driver_core.proofs.driver.Core.advance_on.Goals as goal

pub returns-then-is_tick_held : goal.returns-then-is_tick_held
returns-then-is_tick_held c device ticks d caller stands =
    let core = c.args.self.now in
    let dues = dues_of core c.args.on c.args.time in
    (tick_waits core d device c.args.time c.args.on stands (ticks d stands) dues refl (sym (c.is_tick_held.ensures d dues stands refl) ∙ c.if-is_tick_held.true), stands)

pub returns-in-Ok-flips : goal.returns-in-Ok-flips
returns-in-Ok-flips c device ticks d caller stands =
    let core = c.args.self.now in
    let t = ticks d stands in
    let dues = c.deref.result.now in
    let are : AreDue core c.args.on c.args.time dues = c.deref.ensures.value ∙ c.in-Ok.ensures in
    let home : is_any_out d dues ≡ false = sym (c.is_tick_held.ensures d dues stands are) ∙ c.if-is_tick_held.false in
    record {
      after = ticked_at d t.on c.args.time;
      step = tick_steps core d device c.args.time c.args.on stands t dues are caller home c.in-Ok-flips.flips c.in-Ok-flips.ensures.shows;
      stands = c.tick.ensures d t.on (c.flips.ensures.stands d stands) t.at_place t.has;
    }

pub returns : goal.returns
returns c device ticks d caller stands =
    record { after = d; step = inl (refl, (refl, refl)); stands = c.flips.ensures.stands d stands }
