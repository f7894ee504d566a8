use Rattle.std.proofs.Common.{set, Some, refl, ap, ◌∙◌}
use Rattle.stream_task.proofs.Settled.{none_whole, whole_one}
use Rattle.stream_task.proofs.task.StreamTask.rendered.Goals.{then-whole, else-whole}
use Rattle.stream_task.proofs.task.StreamTask.rendered.Goals as goal

pub returns : goal.returns
returns c = λ of way one stands given offset. elim c.if-whole.branch [
  | then-whole w ↦
      whole_one c.args.self.now c.if-whole.self w.decoded-then-whole.new.self c.settle.new.self of way one c.args.frame c.args.surface c.args.whole stands w.self-is w.if-whole.true
      w.decoded-then-whole.ensures.of_number
      (w.decoded-then-whole.ensures.waits ∙ ap (λ n. set c.args.self.now.slots.waits c.args.surface (Some n)) (w.decoded.ensures of way stands))
      (λ still. c.settle.ensures.decoded w.if-whole.true of way one still given)
  | else-whole w ↦
      none_whole c.args.self.now c.if-whole.self c.args.self.now.slots c.settle.new.self of way one c.args.frame c.args.surface c.args.whole stands w.self-is w.if-whole.false refl
      (λ still. c.settle.ensures.failed w.if-whole.false of way one.picture still given offset)
]
