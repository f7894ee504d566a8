use Rattle.std.proofs.Common.{◌≡◌, Some, Err}
use mathlib.Core.List.{IsPrefix}
use Rattle.device_lock.specs.Passes.{held_view, pass_lock}
use Rattle.device_lock.specs.Views.{IsSamePass}
use Rattle.driver_model.specs.Jobs.{reply_of}
use Rattle.driver_model.specs.declared.calls.Call.TheVariants.{Render}
use Rattle.driver.specs.Made.{entry_of}
use Rattle.driver.specs.Passes.{view}
use Rattle.driver.proofs.RenderJobs.{the_outcome}
use Rattle.driver.proofs.driver.Driver.begin_counted.Given as goal

-- While the call waits, its pass is as it came, but for what it has seen, which grows, and the submission has the same bytes.
abbrev pub invariant-loop : goal.invariant-loop
invariant-loop g l =
    (goal.iterator-loop g).can_next l.iterator' × (goal.iterator-loop g).is_finite l.iterator'
    × (pass_lock l.pass.token ≡ pass_lock l.fn.pass.token)
    × IsPrefix (view l.fn.pass).seen (view l.pass).seen
    × IsSamePass (view l.fn.pass) (view l.pass)
    × (l.submission ≡ g.bytes)

abbrev pub ghosts-log_item : goal.ghosts-log_item
ghosts-log_item g a = record { item = Some (entry_of (held_view a.held) (Render a._call.now.0 a._call.now.1 a._call.now.2 g.bytes) (reply_of (the_outcome a._comes_to.now))) }

abbrev pub ghosts-log_item-2 : goal.ghosts-log_item-2
ghosts-log_item-2 g a = record { item = Some (entry_of (held_view a.held) (Render a._call.now.0 a._call.now.1 a._call.now.2 g.bytes) (Err a._comes_to.now)) }
