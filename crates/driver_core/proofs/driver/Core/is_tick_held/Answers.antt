use Rattle.std.proofs.Common.{sym, ap, ◌∙◌}
use Rattle.std.specs.List.{list_any}
use Rattle.driver_objects.specs.declared.ticks.Due.{Due}
use Rattle.driver_core.specs.Clocked.{is_any_out}
use Rattle.driver_core.proofs.DueQueues.{dues_of}
use Rattle.driver_core.proofs.Out.{out_by_jobs}
use Rattle.driver_core.proofs.driver.Core.is_tick_held.Goals as goal

pub returns : goal.returns
returns c d dues stands are =
    let core = c.args.self.now in
    rw (c.kept.ensures, c.deref.ensures.value) at c.is_due_written.ensures
    ∙ ((λ i. list_any (λ (due : Due). out_by_jobs core d stands due.surface i) (dues_of core c.args.on c.args.time)) ∙ ap (is_any_out d) (sym are))
