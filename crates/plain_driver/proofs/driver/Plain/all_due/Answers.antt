use Rattle.std.proofs.Common.{◌≡◌, ◌∙◌, ap, sym, arith, take, Vec, Global}
use Rattle.std.proofs.Math.Seq.{take-length}
use Rattle.plain_driver.proofs.Loops.{dues_from, dues_more, dues_with}
use Rattle.plain_driver.specs.declared.queues.Places.{Places}
use Rattle.plain_driver.proofs.driver.Plain.all_due.Goals as goal
use Rattle.plain_driver.proofs.driver.Plain.all_due.Goals.{in-Some+in_ok-push, in_default}

pub loop-queue-preserved : goal.loop-queue-preserved
loop-queue-preserved c =
    dues_more c.args.on c.args.time c.deref-object-items.result.now c.loop-queue.queue c.object-item.result c.loop-queue.dues.items c.match-due_surface.dues.items c.due_surface.result
    c.loop-queue-test.true c.object-item.is c.loop-queue.invariant c.due_surface.ensures
    (elim c.match-due_surface.branch [
      | in-Some+in_ok-push w ↦ ap (λ (v : Vec Places Global). v.items) w.dues-is ∙ (w.in_ok-push.ensures.items ∙ ap (dues_with c.loop-queue.dues.items c.loop-queue.queue) (sym w.in-Some.is))
      | in_default w ↦ ap (λ (v : Vec Places Global). v.items) w.dues-is ∙ ap (dues_with c.loop-queue.dues.items c.loop-queue.queue) (sym w.in_default.is)
    ])

pub returns : goal.returns
returns c =
    let all : take c.loop-queue.queue c.deref-object-items.result.now ≡ c.args.self.now.objects.items =
    ap (λ n. take n c.deref-object-items.result.now) (omega (arith, c.loop-queue.auto.queue-end, c.loop-queue-test.false)) ∙ (take-length c.deref-object-items.result.now ∙ c.deref-object-items.ensures.value) in
    c.loop-queue.invariant ∙ ap (dues_from c.args.on c.args.time 0) all
