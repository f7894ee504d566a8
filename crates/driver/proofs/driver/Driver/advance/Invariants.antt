use Rattle.std.proofs.Common.{◌≡◌, Some}
use mathlib.Core.List.{IsPrefix}
use Rattle.device_lock.specs.Passes.{held_view, pass_lock}
use Rattle.device_lock.specs.Views.{IsSamePass}
use Rattle.driver_model.specs.Answers.{reply_with}
use Rattle.driver_model.specs.declared.calls.Call.TheVariants.{Advance}
use Rattle.driver_model.specs.declared.replies.Answer.TheVariants.{Flips}
use Rattle.driver_objects.specs.Flips.{flipped}
use Rattle.driver.specs.Made.{entry_of}
use Rattle.driver.specs.Passes.{view}
use Rattle.driver.proofs.driver.Driver.advance.Given as goal

-- While the call waits, its pass is as it came, but for what it has seen, which grows, and the flips are as they came.
abbrev pub invariant-loop : goal.invariant-loop
invariant-loop g l =
    (goal.iterator-loop g).can_next l.iterator' × (goal.iterator-loop g).is_finite l.iterator'
    × (pass_lock l.pass.token ≡ pass_lock l.fn.pass.token)
    × IsPrefix (view l.fn.pass).seen (view l.pass).seen
    × IsSamePass (view l.fn.pass) (view l.pass)
    × (l.flips ≡ l.fn.flips)

abbrev pub ghosts-log_flips : goal.ghosts-log_flips
ghosts-log_flips g a = record { item = Some (entry_of (held_view a.held) (Advance a._device a._time) (reply_with (λ _. Flips (flipped a._flips.now)) a.reply)) }
