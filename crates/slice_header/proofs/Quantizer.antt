-- The quantizer of a slice.
use Rattle.std.proofs.lemmas.Int.{ints}
use Rattle.std.proofs.Common.{ℤ, pos, negsuc, ◌+ℤ◌, ◌-ℤ◌, ◌≤ℤ◌, arith}

pub qp_low : (init delta : ℤ) → negsuc 25 ≤ℤ init → init ≤ℤ pos 25 → (negsuc 25 -ℤ init) ≤ℤ delta → pos 0 ≤ℤ ((pos 26 +ℤ init) +ℤ delta)
qp_low init delta least most h = omega (arith, ints)

pub qp_high : (init delta : ℤ) → negsuc 25 ≤ℤ init → init ≤ℤ pos 25 → delta ≤ℤ (pos 25 -ℤ init) → ((pos 26 +ℤ init) +ℤ delta) ≤ℤ pos 51
qp_high init delta least most h = omega (arith, ints)

pub delta_low : (init delta : ℤ) → negsuc 25 ≤ℤ init → init ≤ℤ pos 25 → pos 0 ≤ℤ ((pos 26 +ℤ init) +ℤ delta) → (negsuc 25 -ℤ init) ≤ℤ delta
delta_low init delta least most h = omega (arith, ints)

pub delta_high : (init delta : ℤ) → negsuc 25 ≤ℤ init → init ≤ℤ pos 25 → ((pos 26 +ℤ init) +ℤ delta) ≤ℤ pos 51 → delta ≤ℤ (pos 25 -ℤ init)
delta_high init delta least most h = omega (arith, ints)
