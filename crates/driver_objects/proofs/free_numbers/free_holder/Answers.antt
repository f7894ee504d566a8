use Rattle.std.proofs.Common.{true≢false, sym, ◌∙◌, arith}
use Rattle.driver_objects.specs.Kinds.{has_own_holder}
use Rattle.driver_objects.proofs.OwnNumbers.{has_it}
use Rattle.driver_objects.proofs.Lists.{any_at}
use Rattle.driver_objects.proofs.free_numbers.free_holder.Goals as goal

pub returns-then-not-is_holder-clause-free : goal.returns-then-not-is_holder-clause-free
returns-then-not-is_holder-clause-free c =
    let holder = c.loop-holder.holder in
    let test = c.loop-holder-test.true in
    (omega (arith, test), λ i object at has. true≢false (sym (any_at (has_own_holder holder) c.args.kept.now i object at (has_it holder object has)) ∙ (sym c.is_holder.ensures ∙ let n = c.if-not-is_holder.true in grind (arith, n))))
