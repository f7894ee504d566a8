use Rattle.std.proofs.Common.{◌≡◌, ◌≢◌, ℕ, ◌<◌, ◌∙◌, ap, arith, length, map, sym, Some, true, is_ok, if◌then◌else◌, ◌++◌, ◌∷◌, []}
use Rattle.std.proofs.lemmas.List.{length-map, map-append}
use Rattle.driver_model.specs.Objects.{as_queue, QueueObject, PresentationQueue}
use Rattle.present_queue.specs.Queue.{Queue}
use Rattle.plain_driver.specs.Presenting.{lined_up}
use Rattle.plain_driver.specs.States.{content_of, presentation_of, queued_of}
use Rattle.plain_driver.specs.declared.objects.PlainContent.{PlainContent}
use Rattle.plain_driver.specs.declared.objects.PlainContent.TheVariants as plain
use Rattle.plain_driver.specs.declared.objects.PlainQueue.{PlainQueue}
use Rattle.plain_driver.proofs.queues.line_up.Goals as goal

-- there is room for one more
few_in : (content : PlainContent) (queue : PlainQueue) → content ≡ plain.Queue queue → ((of : PresentationQueue) → as_queue (content_of content) ≡ Some of → length of.queue.entries ≢ 64) → length queue.entries.items < 64
few_in content queue is room =
    let not : length (map queued_of queue.entries.items) ≢ 64 = room (presentation_of queue) (ap (λ x. as_queue (content_of x)) is) in
    let few = queue.few in
    let count = length-map queue.entries.items queued_of in
    omega arith

pub invariant_of-queue : goal.invariant_of-queue
invariant_of-queue c =
    let below = few_in c.args.content.now c.in-Queue.queue c.in-Queue.is c.requires in
    record {
      few = omega (arith, below, c.push.new.self.ok.0, c.in-Queue.queue.entries.ok.0, c.push.ensures.upper_bound);
      room = omega (arith, c.in-Queue.queue.room, c.push.ensures.capacity);
    }

pub returns-in-Queue : goal.returns-in-Queue
returns-in-Queue c =
    let old = c.in-Queue.queue in
    let below = few_in c.args.content.now old c.in-Queue.is c.requires in
    let done : is_ok c.push.result ≡ true = c.push.ensures.succeeds (omega (arith, below, old.room, old.entries.ok.0)) in
    let items : c.push.new.self.items ≡ old.entries.items ++ c.args.entry ∷ [] = c.push.ensures.items ∙ ap (λ b. if b then old.entries.items ++ c.args.entry ∷ [] else old.entries.items) done in
    ap (λ es. let q : Queue ℕ = record { entries = es; visible = old.visible; promise = old.promise } in QueueObject (record { window = old.window; queue = q })) (ap (map queued_of) items ∙ map-append queued_of old.entries.items (c.args.entry ∷ []))
    ∙ ap (λ x. lined_up (queued_of c.args.entry) (content_of x)) (sym c.in-Queue.is)
