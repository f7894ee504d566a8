use Rattle.std.proofs.Common.{◌==◌, ◌∙◌, ap, sym, ℕ}
use Rattle.std.specs.List.{list_any}
use Rattle.present_queue.specs.Queue.{Queued}
use Rattle.plain_driver.specs.Presenting.{holds_in}
use Rattle.plain_driver.specs.States.{queued_of}
use Rattle.plain_driver.proofs.Changed.{list_any-map}
use Rattle.plain_driver.specs.declared.objects.PlainQueued.{PlainQueued}
use Rattle.plain_driver.proofs.queues.holds.Goals as goal

pub returns-in-Queue : goal.returns-in-Queue
returns-in-Queue c =
    c.some_names.ensures
    ∙ (ap (λ xs. list_any (λ (entry : PlainQueued). entry.surface == c.args.surface) xs) c.deref.ensures.value
    ∙ (sym (list_any-map queued_of (λ (entry : Queued ℕ). entry.surface == c.args.surface) c.in-Queue.queue.entries.items)
    ∙ ap (holds_in c.args.surface) (sym c.in-Queue.is)))
