use Rattle.std.proofs.Common.{◌≡◌, ℕ, ◌+◌, ◌-◌, ◌<◌, ◌^◌, take, get_or, ◌++◌, ◌∷◌, [], ap, ◌∙◌, arith, rules, w8, length-take-le}
use Rattle.std.proofs.lemmas.Nat.Bits.{bit_at-trailing_zeros}
use Rattle.bit_io.proofs.LastOneLemmas.{through_take, through_none, through_byte, through_zero_byte}
use Rattle.bit_io.specs.Bits.{bits_of}
use Rattle.bit_io.specs.Places.{through_last_one}
use Rattle.bit_io.proofs.reader.last_one.Goals as goal

pub returns-then-byte-ne0-clause-last : goal.returns-then-byte-ne0-clause-last
returns-then-byte-ne0-clause-last c =
    let bytes = c.args.bytes.now in
    let i = c.loop-end.end - 1 in
    let byte = get_or bytes i 0 in
    let front = take i bytes in
    let back : c.loop-end.end ≡ i + 1 = omega arith in
    let fits : byte < 2 ^ 8 = search (rules, c.type_inv.bytes i) in
    let not_zero : byte ≡ 0 → ⊥ = c.if-byte-ne0.true in
    let some : 0 < byte = omega (arith, not_zero) in
    let zeros = bit_at-trailing_zeros w8 byte some fits in
    let kept = c.loop-end.invariant.1 ∙ ap (λ (x : ℕ). through_last_one (bits_of (take x bytes))) back ∙ through_take bytes i (omega arith) in
    omega (arith, kept, through_byte front byte zeros.0, length-take-le i bytes (omega arith), zeros.0)

pub loop-end-preserved : goal.loop-end-preserved
loop-end-preserved c =
    let bytes = c.args.bytes.now in
    let i = c.loop-end.end - 1 in
    let back : c.loop-end.end ≡ i + 1 = omega arith in (
      omega arith,
      c.loop-end.invariant.1 ∙ ap (λ (x : ℕ). through_last_one (bits_of (take x bytes))) back ∙ through_take bytes i (omega arith)
          ∙ ap (λ (x : ℕ). through_last_one (bits_of (take i bytes ++ x ∷ []))) c.if-byte-ne0.false ∙ through_zero_byte (take i bytes),
    )

pub returns-clause-last : goal.returns-clause-last
returns-clause-last c =
    let none : c.loop-end.end ≡ 0 = omega arith in
    let kept = c.loop-end.invariant.1 ∙ ap (λ (x : ℕ). through_last_one (bits_of (take x c.args.bytes.now))) none ∙ through_none in
    omega (arith, kept)
