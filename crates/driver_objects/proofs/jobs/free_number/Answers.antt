use Rattle.std.proofs.Common.{◌+◌, ◌-◌, length, sym, ap, ◌∙◌, arith}
use Rattle.driver_model.specs.States.{free_number_from}
use Rattle.driver_objects.proofs.FreeNumbers.{none_left, number_free, number_taken, numbers}
use Rattle.driver_objects.proofs.jobs.free_number.Goals as goal

pub returns-then-not-is_number : goal.returns-then-not-is_number
returns-then-not-is_number c =
    let jobs = c.args.jobs.now in
    let free = sym c.is_number.ensures ∙ c.if-not-is_number.true in
    sym (c.loop.invariant.1 ∙ number_free jobs (length jobs - c.loop.counter) c.loop.number free)

pub loop-preserved : goal.loop-preserved
loop-preserved c =
    let jobs = c.args.jobs.now in
    let taken = sym c.is_number.ensures ∙ c.if-not-is_number.false in
    let test = c.loop-test.true in (
      ap (λ n. n + 1) c.loop.invariant.0,
      c.loop.invariant.1 ∙ number_taken jobs (length jobs - c.loop.counter) (length jobs - (c.loop.counter + 1)) c.loop.number taken (omega (arith, test)),
    )

pub returns : goal.returns
returns c =
    let jobs = c.args.jobs.now in
    let test = c.loop-test.false in
    sym (c.loop.invariant.1 ∙ (ap (λ n. free_number_from (numbers jobs) n c.loop.number) (omega (arith, test)) ∙ none_left jobs c.loop.number))
