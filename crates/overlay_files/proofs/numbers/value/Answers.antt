use Rattle.std.proofs.Common.{arith, ◌<◌, ◌^◌, refl, rules}
use Rattle.clock_script.proofs.Numerals.{not_digits, read_bound, read_more}
use Rattle.overlay_files.proofs.numbers.value.Goals as goal

pub returns-then-not-is_ascii_digit : goal.returns-then-not-is_ascii_digit
returns-then-not-is_ascii_digit c = not_digits c.args.text.now c.loop-byte.byte-index c.loop-byte-test.true (λ least most. search rules)

pub overflow_mul-number : goal.overflow_mul-number
overflow_mul-number c =
    let bound : c.loop-byte.number < 10 ^ 18 = read_bound c.args.text.now c.loop-byte.byte-index c.loop-byte.number (omega (arith, c.loop-byte-test.true, c.requires)) (omega (arith, c.loop-byte-test.true)) c.loop-byte.invariant in
    record { fits = omega (arith, bound) }

pub overflow_add-number : goal.overflow_add-number
overflow_add-number c =
    let bound : c.loop-byte.number < 10 ^ 18 = read_bound c.args.text.now c.loop-byte.byte-index c.loop-byte.number (omega (arith, c.loop-byte-test.true, c.requires)) (omega (arith, c.loop-byte-test.true)) c.loop-byte.invariant in
    record { fits = omega (arith, bound, c.from.ensures) }

pub loop-byte-preserved : goal.loop-byte-preserved
loop-byte-preserved c =
    rw c.from.ensures (read_more c.args.text.now c.loop-byte.byte-index c.loop-byte.number _ c.loop-byte-test.true refl (search rules) (search rules) c.loop-byte.invariant)
