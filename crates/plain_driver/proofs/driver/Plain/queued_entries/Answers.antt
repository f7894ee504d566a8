use Rattle.std.proofs.Common.{◌≡◌, ◌∙◌, ap, arith, take}
use Rattle.std.specs.List.{sum_by}
use Rattle.std.proofs.Math.Seq.{take-length}
use Rattle.plain_driver.specs.Keeping.{waiting_in}
use Rattle.plain_driver.proofs.Keeps.{sum_by-waiting}
use Rattle.plain_driver.proofs.driver.Plain.queued_entries.Goals as goal

pub returns : goal.returns
returns c =
    let items = c.deref-object-items.result.now in
    let all : take c.loop-object.object-index items ≡ c.args.self.now.objects.items =
    ap (λ n. take n items) (omega (arith, c.loop-object.auto.object-index-end, c.loop-object-test.false)) ∙ (take-length items ∙ c.deref-object-items.ensures.value) in
    c.loop-object.invariant.0 ∙ (ap (sum_by waiting_in) all ∙ sum_by-waiting c.args.self.now.objects.items)
