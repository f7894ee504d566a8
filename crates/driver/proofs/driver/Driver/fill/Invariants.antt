use Rattle.std.proofs.Common.{◌≡◌, Some}
use mathlib.Core.List.{IsPrefix}
use Rattle.device_lock.specs.Passes.{held_view, pass_lock}
use Rattle.device_lock.specs.Views.{IsSamePass}
use Rattle.driver_model.specs.Answers.{reply_with}
use Rattle.driver_model.specs.declared.replies.Answer.TheVariants.{Bytes}
use Rattle.driver.specs.Made.{entry_of}
use Rattle.driver.specs.Passes.{view}
use Rattle.driver.proofs.driver.Driver.fill.Given as goal

-- While the call waits, its pass is as it came, but for what it has seen, which grows, and the buffer is as it came.
abbrev pub invariant-loop : goal.invariant-loop
invariant-loop g l =
    (goal.iterator-loop g).can_next l.iterator' × (goal.iterator-loop g).is_finite l.iterator'
    × (pass_lock l.pass.token ≡ pass_lock l.fn.pass.token)
    × IsPrefix (view l.fn.pass).seen (view l.pass).seen
    × IsSamePass (view l.fn.pass) (view l.pass)
    × (l.out ≡ l.fn.out)

abbrev pub ghosts-log_bytes : goal.ghosts-log_bytes
ghosts-log_bytes g a = record { item = Some (entry_of (held_view a.held) (g.F.Fill.call a._fill.now a._count) (reply_with (λ _. Bytes a._out.now) a.reply)) }
