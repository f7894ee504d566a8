use Rattle.std.proofs.Common.{length, refl, ap, ◌∙◌}
use Rattle.std.proofs.lemmas.List.{length-set}
use Rattle.present_queue.proofs.Displayed.{IsSound-displayed, answer-early, answer-full, answer-taken, node_left, view-displayed}
use Rattle.present_queue.proofs.ViewLemmas.{kept_read}
use Rattle.present_queue.proofs.queues.Queues.display.Goals as goal

pub returns-then-kept-eq-MAX_ENTRIES-clause-answer : goal.returns-then-kept-eq-MAX_ENTRIES-clause-answer
returns-then-kept-eq-MAX_ENTRIES-clause-answer c =
    let read = kept_read _ _ _ _ c.self.invariant c.self.view_is c.args.queue c.index-kept.result.now c.requires.queue c.index-kept.ensures in
    answer-full _ _ _ _ c.self.invariant c.self.view_is c.args.queue c.requires.queue c.index-kept.result.now read c.args.entry.earliest c.if-kept-eq-MAX_ENTRIES.true

pub returns-then-entry-kept-clause-answer : goal.returns-then-entry-kept-clause-answer
returns-then-entry-kept-clause-answer c =
    let read = kept_read _ _ _ _ c.self.invariant c.self.view_is c.args.queue c.index-kept.result.now c.requires.queue c.index-kept.ensures in
    answer-early _ _ _ _ c.self.invariant c.self.view_is c.args.queue c.requires.queue c.index-kept.result.now read c.args.entry.earliest c.if-kept-eq-MAX_ENTRIES.false c.if-entry-kept.true

pub unreachable-requires : goal.unreachable-requires
unreachable-requires c =
    let read = kept_read _ _ _ _ c.self.invariant c.self.view_is c.args.queue c.index-kept.result.now c.requires.queue c.index-kept.ensures in
    node_left _ _ _ _ c.self.invariant c.self.view_is c.args.queue c.requires.queue c.index-kept.result.now read c.if-kept-eq-MAX_ENTRIES.false (c.in-None.ensures.none.0 refl)

pub invariant_of-self : goal.invariant_of-self
invariant_of-self c =
    let read = kept_read _ _ _ _ c.self.invariant c.self.view_is c.args.queue c.index-kept.result.now c.requires.queue c.index-kept.ensures in
    IsSound-displayed _ _ _ _ c.self.invariant c.self.view_is c.args.queue c.requires.queue c.index-kept.result.now read
    c.push.new.self c.in-Some.field-0 c.args.holder c.args.entry.object c.args.entry.earliest c.requires.owner c.requires.holder c.in-Some.ensures.queues
    c.if-kept-eq-MAX_ENTRIES.false (ap length c.in-Some.ensures.holders ∙ length-set c.self.inside.links.holders c.args.holder _) c.in-Some.ensures.nodes

pub returns-clause-answer : goal.returns-clause-answer
returns-clause-answer c =
    let read = kept_read _ _ _ _ c.self.invariant c.self.view_is c.args.queue c.index-kept.result.now c.requires.queue c.index-kept.ensures in
    answer-taken _ _ _ _ c.self.invariant c.self.view_is c.args.queue c.requires.queue c.index-kept.result.now read c.args.entry.earliest c.if-kept-eq-MAX_ENTRIES.false c.if-entry-kept.false

pub returns-clause-ok : goal.returns-clause-ok
returns-clause-ok c =
    let read = kept_read _ _ _ _ c.self.invariant c.self.view_is c.args.queue c.index-kept.result.now c.requires.queue c.index-kept.ensures in
    view-displayed _ _ _ _ c.self.invariant c.self.view_is c.args.queue c.requires.queue c.index-kept.result.now read
    c.push.new.self c.in-Some.field-0 c.args.holder c.args.entry.object c.args.entry.earliest c.requires.owner c.requires.holder c.in-Some.ensures.queues
