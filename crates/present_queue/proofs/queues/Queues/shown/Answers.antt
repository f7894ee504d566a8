use Rattle.std.proofs.Common.{ap, sym, ◌∙◌}
use Rattle.std.specs.List.{list_any}
use Rattle.present_queue.specs.Kept.{shows_holder}
use Rattle.present_queue.specs.Queue.{is_shown}
use Rattle.present_queue.specs.Queues.{has_holder}
use Rattle.present_queue.proofs.HolderLemmas.{is_shown-by_object}
use Rattle.present_queue.proofs.ViewLemmas.{is_shown-queues_with}
use Rattle.present_queue.proofs.queues.Queues.shown.Goals as goal

by_holder : goal.returns-clause-by_holder
by_holder c =
    c.some_shows.ensures
    ∙ ap (list_any (shows_holder c.args.holder)) c.deref.ensures.value
    ∙ sym (is_shown-queues_with c.self.inside.objects.items c.args.holder c.self.inside.links.queues c.self.inside.kept.items (c.self.invariant.queues ∙ sym c.self.invariant.each_kept))
    ∙ ap (is_shown (has_holder c.args.holder)) c.self.view_is

pub returns-clause-by_holder : goal.returns-clause-by_holder
returns-clause-by_holder = by_holder

pub returns-clause-by_object : goal.returns-clause-by_object
returns-clause-by_object c object is_holder = by_holder c ∙ is_shown-by_object c.args.self.now c.args.holder object is_holder
