use Rattle.std.proofs.Common.{◌≡◌, inl, inr, ◌==◌, ◌||◌, true, false, length, Some, Ok, Err, refl, sym, ap, ◌∙◌, arith}
use Rattle.std.proofs.lemmas.Bool.Decides.{nat_tests}
use Rattle.vd_status.specs.declared.refusal.Refusal.TheVariants.{HandlesFull}
use Rattle.driver_model.specs.Creates.{handles_full, is_full, live_objects, live_queues, new_queue, queue_create}
use Rattle.driver_model.specs.Refusals.{refused_if, ◌>>◌}
use Rattle.driver_model.specs.declared.numbers.TheConstants as number
use Rattle.driver_core.specs.Stands.{by_place}
use Rattle.driver_core.proofs.Asking.{queue_room}
use Rattle.driver_core.proofs.Creating.{created_queued}
use Rattle.driver_core.proofs.Live.{live_all}
use Rattle.driver_core.proofs.LiveQueues.{empty_added, queues_few, queues_full}
use Rattle.driver_core.proofs.Steps.{refusing}
use Rattle.driver_core.proofs.driver.Core.make_queue.Goals as goal

pub returns-in_default : goal.returns-in_default
returns-in_default c d caller stands =
    let core = c.args.self.now in
    let on = c.in_ok-on.ensures.finds d stands in
    let queues = queues_full core (rw c.kept.ensures at c.in_default.ensures.none) d stands in
    let full : (is_full d || live_queues d == number.MAX_QUEUES) ≡ true = grind (arith, nat_tests, queues) in
    let looks : queue_create d c.args.device ≡ Err (handles_full d) = queue_room d c.args.device on.0 on.1 c.in_ok-on.on on.2 ∙ ap (λ b. refused_if b (handles_full d) >> Ok c.in_ok-on.on) full in
    let live : c.live.result ≡ live_objects d = c.live.ensures ∙ live_all core d stands in
    let given : c.made.result ≡ length d.objects = c.made.ensures ∙ stands.made in
    record { after = d; step = inr (refusing _ _ (queue_create d c.args.device) (handles_full d) looks (λ i. Err (HandlesFull (live i) (given i)), refl)); stands = stands }

pub returns : goal.returns
returns c d caller stands =
    let core = c.args.self.now in
    let a = c.args in
    let on = c.in_ok-on.ensures.finds d stands in
    let free = rw c.kept.ensures at c.in-Some.ensures.free in
    let queues = queues_few core c.in-Some.number free.0 free.1 d stands in
    let few : (live_queues d == number.MAX_QUEUES) ≡ false = grind (arith, nat_tests, queues) in
    let so = created_queued core c.add.new.self d stands number.PRESENTATION_QUEUE (Some c.in_ok-on.on) _ (new_queue a.window) (empty_added d (Some c.in_ok-on.on) a.window) refl (refl, ap by_place (sym (core.sound.unused c.in-Some.number free.1)))
    (queue_create d a.device) (live_queues d == number.MAX_QUEUES) (λ what. what ≡ new_queue a.window) refl (queue_room d a.device on.0 on.1 c.in_ok-on.on on.2) few c.add.result c.add.ensures.ok c.add.ensures.full c.add.ensures.err in
    record { after = so.new; step = elim so.does [ inl memory ↦ inl (refl, memory) | inr does ↦ inr does ]; stands = so.stands }
