use Rattle.std.proofs.Common.{ap, sym, ◌∙◌}
use Rattle.std.specs.Option.{is_some}
use Rattle.present_queue.specs.Queue.{is_queued}
use Rattle.present_queue.specs.Queues.{has_holder}
use Rattle.present_queue.proofs.HeldNodes.{is_queued-queues_with, is_some-held}
use Rattle.present_queue.proofs.HolderLemmas.{is_queued-by_object}
use Rattle.present_queue.proofs.queues.Queues.queued.Goals as goal

by_holder : goal.returns-clause-by_holder
by_holder c =
    c.is_some.ensures
    ∙ ap is_some c.held.ensures.first
    ∙ is_some-held c.self.inside.links c.args.holder c.held.ensures.same
    ∙ sym (is_queued-queues_with c.self.inside.objects.items c.args.holder c.self.inside.links.queues c.self.inside.kept.items (c.self.invariant.queues ∙ sym c.self.invariant.each_kept))
    ∙ ap (is_queued (has_holder c.args.holder)) c.self.view_is

pub returns-clause-by_holder : goal.returns-clause-by_holder
returns-clause-by_holder = by_holder

pub returns-clause-by_object : goal.returns-clause-by_object
returns-clause-by_object c object is_holder = by_holder c ∙ is_queued-by_object c.args.self.now c.args.holder object is_holder
