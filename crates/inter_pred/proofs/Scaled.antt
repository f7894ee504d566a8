-- Numbers over powers of two, as they are computed.
use Rattle.std.proofs.Common.{◌≡◌, ℕ, zero, suc, ◌-◌, ◌*◌, ◌%◌, ◌^◌, ◌≤◌, ℤ, pos, negsuc, ◌+ℤ◌, ◌*ℤ◌, FitsSigned, to_z, of_z, w32, refl, ap, ◌∙◌, arith}
use Rattle.std.specs.Prelude.{unsigned_abs}
use Rattle.std.specs.Int.{int_max, int_min}
use Rattle.std.proofs.lemmas.Int.{clamps, ints, to_z-of_z}
use Rattle.std.proofs.Math.Pow.{pow_mono}
use lib.Signed.{mag_shr, shr_z}
use Rattle.inter_pred.specs.Places.{clip}
use Rattle.inter_pred.specs.Weights.{scaled, weighted}

pub not_scaled : (denom : ℕ) (z : ℤ) → FitsSigned w32 z → denom ≡ 0 → to_z w32 (of_z w32 z) ≡ scaled denom z
unfolding scaled
not_scaled zero z fits is = to_z-of_z w32 z fits
not_scaled (suc n) z fits is = absurd (omega arith)

small_power : (n : ℕ) → n ≤ 6 → 2 ^ n ≤ 64
small_power n le = pow_mono le

rounding_is : (n : ℕ) → n ≤ 6 → to_z w32 (1 * 2 ^ (suc n - 1) % 4294967296) ≡ pos (2 ^ n)
rounding_is n le =
    let same : suc n - 1 ≡ n = omega arith in
    ap (λ k. to_z w32 (1 * 2 ^ k % 4294967296)) same ∙ omega (arith, ints, small_power n le)

sum_is : (z v : ℤ) (m : ℕ) → unsigned_abs z ≤ 32640 → m ≤ 64 → v ≡ pos m → to_z w32 (of_z w32 (to_z w32 (of_z w32 z) +ℤ v)) ≡ z +ℤ pos m
sum_is z v m small le is = omega (arith, ints)

shift_fits : (z : ℤ) (m : ℕ) → FitsSigned w32 z → FitsSigned w32 (shr_z z m)
shift_fits z m fits = record { sfits = omega (arith, mag_shr z m, fits.sfits) }

sum_fits : (z : ℤ) (m : ℕ) → unsigned_abs z ≤ 32640 → m ≤ 64 → FitsSigned w32 (z +ℤ pos m)
sum_fits z m small le = omega (arith, ints)

pub scaled_is : (denom : ℕ) (z : ℤ) → unsigned_abs z ≤ 32640 → denom ≤ 7 → (denom ≡ 0 → ⊥) → to_z w32 (of_z w32 (shr_z (to_z w32 (of_z w32 (to_z w32 (of_z w32 z) +ℤ to_z w32 (1 * 2 ^ (denom - 1) % 4294967296)))) (2 ^ denom))) ≡ scaled denom z
unfolding scaled
scaled_is zero z small le some = absurd (some refl)
scaled_is (suc n) z small le some =
    let few : n ≤ 6 = omega arith in
    ap (λ v. to_z w32 (of_z w32 (shr_z v (2 ^ suc n)))) (sum_is z (to_z w32 (1 * 2 ^ (suc n - 1) % 4294967296)) (2 ^ n) small (small_power n few) (rounding_is n few))
    ∙ to_z-of_z w32 (shr_z (z +ℤ pos (2 ^ n)) (2 ^ suc n)) (shift_fits (z +ℤ pos (2 ^ n)) (2 ^ suc n) (sum_fits z (2 ^ n) small (small_power n few)))

clamped : (z r : ℤ) → r ≡ int_max (pos 0) (int_min z (pos 255)) → unsigned_abs (to_z w32 (of_z w32 r)) ≡ clip z
clamped (pos n) r is = omega (arith, ints, clamps)
clamped (negsuc n) r is = omega (arith, ints, clamps)

total_is : (a o : ℤ) → unsigned_abs a ≤ 32768 → unsigned_abs o ≤ 128 → to_z w32 (of_z w32 (to_z w32 (of_z w32 a) +ℤ to_z w32 (of_z w32 o))) ≡ a +ℤ o
total_is a o a_small o_small = omega (arith, ints)

-- a product that was scaled, with an offset
pub weighted_is : (denom p : ℕ) (weight offset product s r : ℤ) → FitsSigned w32 product → FitsSigned w32 weight → unsigned_abs offset ≤ 128 → unsigned_abs s ≤ 32768 → product ≡ pos p *ℤ to_z w32 (of_z w32 weight)
    → s ≡ scaled denom (to_z w32 (of_z w32 product)) → r ≡ int_max (pos 0) (int_min (to_z w32 (of_z w32 (to_z w32 (of_z w32 s) +ℤ to_z w32 (of_z w32 offset)))) (pos 255))
    → unsigned_abs (to_z w32 (of_z w32 r)) ≡ weighted denom weight offset p
unfolding weighted
weighted_is denom p weight offset product s r product_fits weight_fits offset_small s_small is_product is_s is_r =
    clamped (s +ℤ offset) r (is_r ∙ ap (λ z. int_max (pos 0) (int_min z (pos 255))) (total_is s offset s_small offset_small))
    ∙ ap (λ z. clip (z +ℤ offset)) (is_s ∙ ap (scaled denom) (to_z-of_z w32 product product_fits ∙ (is_product ∙ ap (λ z. pos p *ℤ z) (to_z-of_z w32 weight weight_fits))))
