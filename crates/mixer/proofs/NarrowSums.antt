-- Sums of products, as they are computed in 32 bits.
use Rattle.std.proofs.Common.{◌≡◌, ℕ, ◌≤◌, ◌^◌, ℤ, pos, negsuc, ◌+ℤ◌, FitsSigned, to_z, of_z, w32, ap, ◌∙◌, arith}
use Rattle.std.specs.Prelude.{unsigned_abs}
use Rattle.std.specs.Int.{int_max, int_min}
use Rattle.std.proofs.lemmas.Int.{clamps, ints, to_z-of_z}
use lib.Signed.{mag_shr, shr_z}
use Rattle.vd_plane.specs.SampleArray.{nearest}

-- what a register of 32 bits keeps of a number
abbrev kept : ℤ → ℤ
kept z = to_z w32 (of_z w32 z)

pub sum_fits : (a b c : ℤ) → unsigned_abs a ≤ 267386880 → unsigned_abs b ≤ 267386880 → unsigned_abs c ≤ 2 ^ 30 → FitsSigned w32 (kept (kept a +ℤ kept b) +ℤ kept c)
sum_fits a b c in_a in_b in_c = omega (arith, ints)

pub rounded_fits : (a b c : ℤ) → unsigned_abs a ≤ 267386880 → unsigned_abs b ≤ 267386880 → unsigned_abs c ≤ 2 ^ 30 → FitsSigned w32 (kept (kept (kept a +ℤ kept b) +ℤ kept c) +ℤ pos 128)
rounded_fits a b c in_a in_b in_c = omega (arith, ints)

pub rounded_is : (a b c : ℤ) → unsigned_abs a ≤ 267386880 → unsigned_abs b ≤ 267386880 → unsigned_abs c ≤ 2 ^ 30 → kept (kept (kept (kept a +ℤ kept b) +ℤ kept c) +ℤ pos 128) ≡ ((a +ℤ b) +ℤ c) +ℤ pos 128
rounded_is a b c in_a in_b in_c = omega (arith, ints)

pub rounded_bound : (a b c : ℤ) → unsigned_abs a ≤ 267386880 → unsigned_abs b ≤ 267386880 → unsigned_abs c ≤ 2 ^ 30 → unsigned_abs (kept (kept (kept (kept a +ℤ kept b) +ℤ kept c) +ℤ pos 128)) ≤ 1608515712
rounded_bound a b c in_a in_b in_c = omega (arith, ints)

total_is : (a b : ℤ) → unsigned_abs a ≤ 267386880 → unsigned_abs b ≤ 1608515712 → kept (kept a +ℤ kept b) ≡ a +ℤ b
total_is a b in_a in_b = omega (arith, ints)

total_fits : (a b : ℤ) → unsigned_abs a ≤ 267386880 → unsigned_abs b ≤ 1608515712 → FitsSigned w32 (a +ℤ b)
total_fits a b in_a in_b = omega (arith, ints)

shift_fits : (z : ℤ) (m : ℕ) → FitsSigned w32 z → FitsSigned w32 (shr_z z m)
shift_fits z m fits = record { sfits = omega (arith, mag_shr z m, fits.sfits) }

clamped : (z r : ℤ) → r ≡ int_max (pos 0) (int_min z (pos 255)) → unsigned_abs (kept r) ≡ nearest 256 z
clamped (pos n) r is = omega (arith, ints, clamps)
clamped (negsuc n) r is = omega (arith, ints, clamps)

-- a colour from its two parts
pub colour_is : (a b r : ℤ) → unsigned_abs a ≤ 267386880 → unsigned_abs b ≤ 1608515712 → r ≡ int_max (pos 0) (int_min (kept (shr_z (kept (kept a +ℤ kept b)) 256)) (pos 255)) → unsigned_abs (kept r) ≡ nearest 256 (shr_z (a +ℤ b) 256)
colour_is a b r in_a in_b is =
    clamped (shr_z (a +ℤ b) 256) r
    (is ∙ ap (λ z. int_max (pos 0) (int_min z (pos 255))) (ap (λ z. kept (shr_z z 256)) (total_is a b in_a in_b) ∙ to_z-of_z w32 (shr_z (a +ℤ b) 256) (shift_fits (a +ℤ b) 256 (total_fits a b in_a in_b))))
