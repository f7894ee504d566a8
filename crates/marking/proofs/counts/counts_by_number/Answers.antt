use Rattle.std.proofs.Common.{◌*◌, Bool, if◌then◌else◌, pos, ◌-ℤ◌, ap, ◌∙◌, arith}
use Rattle.std.proofs.lemmas.Int.{ints}
use Rattle.marking.specs.Operations.{counts_in_range}
use Rattle.marking.proofs.counts.counts_by_number.Goals as goal

pub returns-then-is_reference : goal.returns-then-is_reference
returns-then-is_reference c =
    let n = c.args.number in
    c.counted.ensures (pos (2 * n) -ℤ pos 0) (pos (2 * n) -ℤ pos 0) (omega (arith, ints)) (omega (arith, ints))
    ∙ ap (λ (b : Bool). counts_in_range (record { top = pos (2 * n) -ℤ (if b then pos 0 else pos 1); bottom = pos (2 * n) -ℤ (if b then pos 0 else pos 1) })) c.if-is_reference.ensures

pub returns-else-is_reference : goal.returns-else-is_reference
returns-else-is_reference c =
    let n = c.args.number in
    c.counted-else-is_reference.ensures (pos (2 * n) -ℤ pos 1) (pos (2 * n) -ℤ pos 1) (omega (arith, ints)) (omega (arith, ints))
    ∙ ap (λ (b : Bool). counts_in_range (record { top = pos (2 * n) -ℤ (if b then pos 0 else pos 1); bottom = pos (2 * n) -ℤ (if b then pos 0 else pos 1) })) c.if-is_reference.ensures
