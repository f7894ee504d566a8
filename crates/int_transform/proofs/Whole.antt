-- Whole numbers as the code keeps them: what fits 32 bits is kept as it is.
use Rattle.std.proofs.Common.{◌≡◌, ℕ, ◌-◌, map, lit<, ◌*◌, ◌^◌, ◌<◌, pos, negsuc, ◌+ℤ◌, ◌-ℤ◌, List, [], ◌∷◌, ℤ, ◌≤ℤ◌, FitsSigned, to_z, of_z, w32, arith, ◌∙◌}
use Rattle.std.proofs.lemmas.Int.{ints, to_z-of_z}
use lib.Signed.{shr_z}
use Rattle.int_transform.specs.Bounds.{AreWithin, IsWithin}
use Rattle.int_transform.specs.Residual.{transformed}
use Rattle.int_transform.specs.Scan.{value_at}
use Rattle.int_transform.proofs.Places.{within_four, within_none}

-- what the code keeps of a number
abbrev pub kept : ℤ → ℤ
kept z = to_z w32 (of_z w32 z)

pub kept_fits : (z : ℤ) → FitsSigned w32 z → kept z ≡ z
kept_fits z h = to_z-of_z w32 z h

pub fits_within : (n : ℕ) (z : ℤ) → n < 2 ^ 31 → IsWithin n z → FitsSigned w32 z
fits_within n z small h = omega (arith, ints)

pub kept_within : (n : ℕ) (z : ℤ) → n < 2 ^ 31 → IsWithin n z → kept z ≡ z
kept_within n z small h = to_z-of_z w32 z (fits_within n z small h)

-- a half, rounded down
pub record IsHalf (z h : ℤ) : Type 0 where
  pub below : (h +ℤ h) ≤ℤ z
  pub above : z ≤ℤ (h +ℤ h +ℤ pos 1)

pub half : (z : ℤ) → IsHalf z (shr_z z 2)
half (pos n) = record { below = omega (arith, ints); above = omega (arith, ints) }
half (negsuc n) = record { below = omega (arith, ints); above = omega (arith, ints) }

-- the sums of a transform, and that they fit
pub record Sums (d0 d1 d2 d3 : ℤ) : Type 0 where
  pub k0 : kept d0 ≡ d0
  pub k1 : kept d1 ≡ d1
  pub k2 : kept d2 ≡ d2
  pub k3 : kept d3 ≡ d3
  pub h1 : kept (shr_z d1 2) ≡ shr_z d1 2
  pub h3 : kept (shr_z d3 2) ≡ shr_z d3 2
  pub e0 : kept (d0 +ℤ d2) ≡ d0 +ℤ d2
  pub e1 : kept (d0 -ℤ d2) ≡ d0 -ℤ d2
  pub e2 : kept (shr_z d1 2 -ℤ d3) ≡ shr_z d1 2 -ℤ d3
  pub e3 : kept (d1 +ℤ shr_z d3 2) ≡ d1 +ℤ shr_z d3 2

pub sums : (d0 d1 d2 d3 : ℤ) → IsWithin (2 ^ 29) d0 → IsWithin (2 ^ 29) d1 → IsWithin (2 ^ 29) d2 → IsWithin (2 ^ 29) d3 → Sums d0 d1 d2 d3
sums d0 d1 d2 d3 w0 w1 w2 w3 =
    let half1 = half d1 in
    let half3 = half d3 in
    record {
      k0 = kept_fits _ (omega (arith, ints));
      k1 = kept_fits _ (omega (arith, ints));
      k2 = kept_fits _ (omega (arith, ints));
      k3 = kept_fits _ (omega (arith, ints));
      h1 = kept_fits _ (omega (arith, ints));
      h3 = kept_fits _ (omega (arith, ints));
      e0 = kept_fits _ (omega (arith, ints));
      e1 = kept_fits _ (omega (arith, ints));
      e2 = kept_fits _ (omega (arith, ints));
      e3 = kept_fits _ (omega (arith, ints));
    }

pub fits0 : (d0 d1 d2 d3 : ℤ) → IsWithin (2 ^ 29) d0 → IsWithin (2 ^ 29) d1 → IsWithin (2 ^ 29) d2 → IsWithin (2 ^ 29) d3 → FitsSigned w32 (kept (kept d0 +ℤ kept d2) +ℤ kept (kept d1 +ℤ kept (shr_z (kept d3) 2)))
fits0 d0 d1 d2 d3 w0 w1 w2 w3 =
    let s = sums d0 d1 d2 d3 w0 w1 w2 w3 in
    let half3 = half d3 in
    simp (s.k0, s.k1, s.k2, s.k3, s.h3, s.e0, s.e3) (omega (arith, ints))

pub fits1 : (d0 d1 d2 d3 : ℤ) → IsWithin (2 ^ 29) d0 → IsWithin (2 ^ 29) d1 → IsWithin (2 ^ 29) d2 → IsWithin (2 ^ 29) d3 → FitsSigned w32 (kept (kept d0 -ℤ kept d2) +ℤ kept (kept (shr_z (kept d1) 2) -ℤ kept d3))
fits1 d0 d1 d2 d3 w0 w1 w2 w3 =
    let s = sums d0 d1 d2 d3 w0 w1 w2 w3 in
    let half1 = half d1 in
    simp (s.k0, s.k1, s.k2, s.k3, s.h1, s.e1, s.e2) (omega (arith, ints))

pub fits2 : (d0 d1 d2 d3 : ℤ) → IsWithin (2 ^ 29) d0 → IsWithin (2 ^ 29) d1 → IsWithin (2 ^ 29) d2 → IsWithin (2 ^ 29) d3 → FitsSigned w32 (kept (kept d0 -ℤ kept d2) -ℤ kept (kept (shr_z (kept d1) 2) -ℤ kept d3))
fits2 d0 d1 d2 d3 w0 w1 w2 w3 =
    let s = sums d0 d1 d2 d3 w0 w1 w2 w3 in
    let half1 = half d1 in
    simp (s.k0, s.k1, s.k2, s.k3, s.h1, s.e1, s.e2) (omega (arith, ints))

pub fits3 : (d0 d1 d2 d3 : ℤ) → IsWithin (2 ^ 29) d0 → IsWithin (2 ^ 29) d1 → IsWithin (2 ^ 29) d2 → IsWithin (2 ^ 29) d3 → FitsSigned w32 (kept (kept d0 +ℤ kept d2) -ℤ kept (kept d1 +ℤ kept (shr_z (kept d3) 2)))
fits3 d0 d1 d2 d3 w0 w1 w2 w3 =
    let s = sums d0 d1 d2 d3 w0 w1 w2 w3 in
    let half3 = half d3 in
    simp (s.k0, s.k1, s.k2, s.k3, s.h3, s.e0, s.e3) (omega (arith, ints))

pub transformed_is : (d0 d1 d2 d3 : ℤ) → IsWithin (2 ^ 29) d0 → IsWithin (2 ^ 29) d1 → IsWithin (2 ^ 29) d2 → IsWithin (2 ^ 29) d3 → kept (kept (kept d0 +ℤ kept d2) +ℤ kept (kept d1 +ℤ kept (shr_z (kept d3) 2))) ∷ kept (kept (kept d0 -ℤ kept d2) +ℤ kept (kept (shr_z (kept d1) 2) -ℤ kept d3)) ∷ kept (kept (kept d0 -ℤ kept d2) -ℤ kept (kept (shr_z (kept d1) 2) -ℤ kept d3)) ∷ kept (kept (kept d0 +ℤ kept d2) -ℤ kept (kept d1 +ℤ kept (shr_z (kept d3) 2))) ∷ [] ≡ transformed d0 d1 d2 d3
unfolding transformed
transformed_is d0 d1 d2 d3 w0 w1 w2 w3 =
    let s = sums d0 d1 d2 d3 w0 w1 w2 w3 in
    let f0 = kept_fits _ (fits0 d0 d1 d2 d3 w0 w1 w2 w3) in
    let f1 = kept_fits _ (fits1 d0 d1 d2 d3 w0 w1 w2 w3) in
    let f2 = kept_fits _ (fits2 d0 d1 d2 d3 w0 w1 w2 w3) in
    let f3 = kept_fits _ (fits3 d0 d1 d2 d3 w0 w1 w2 w3) in
    rw (f0, f1, f2, f3) (simp (s.k0, s.k1, s.k2, s.k3, s.h1, s.h3, s.e0, s.e1, s.e2, s.e3))

-- what a caller that passes kept numbers gets
pub transformed_kept : (d0 d1 d2 d3 : ℤ) → IsWithin (2 ^ 29) d0 → IsWithin (2 ^ 29) d1 → IsWithin (2 ^ 29) d2 → IsWithin (2 ^ 29) d3 → transformed (kept d0) (kept d1) (kept d2) (kept d3) ≡ transformed d0 d1 d2 d3
transformed_kept d0 d1 d2 d3 w0 w1 w2 w3 =
    let s = sums d0 d1 d2 d3 w0 w1 w2 w3 in
    rw (s.k0, s.k1, s.k2, s.k3)

-- rows of a block stay within what columns take
pub row_within : (d0 d1 d2 d3 : ℤ) → IsWithin (2 ^ 27) d0 → IsWithin (2 ^ 27) d1 → IsWithin (2 ^ 27) d2 → IsWithin (2 ^ 27) d3 → AreWithin (2 ^ 29) (transformed d0 d1 d2 d3)
unfolding transformed
row_within d0 d1 d2 d3 w0 w1 w2 w3 =
    let half1 = half d1 in
    let half3 = half d3 in
    within_four (2 ^ 29) _ _ _ _ []
    record { least = omega (arith, ints); most = omega (arith, ints) }
    record { least = omega (arith, ints); most = omega (arith, ints) }
    record { least = omega (arith, ints); most = omega (arith, ints) }
    record { least = omega (arith, ints); most = omega (arith, ints) }
    (within_none (2 ^ 29))

-- columns leave room for what is added to round them
pub column_within : (d0 d1 d2 d3 : ℤ) → IsWithin (2 ^ 29) d0 → IsWithin (2 ^ 29) d1 → IsWithin (2 ^ 29) d2 → IsWithin (2 ^ 29) d3 → AreWithin (7 * 2 ^ 28) (transformed d0 d1 d2 d3)
unfolding transformed
column_within d0 d1 d2 d3 w0 w1 w2 w3 =
    let half1 = half d1 in
    let half3 = half d3 in
    within_four (7 * 2 ^ 28) _ _ _ _ []
    record { least = omega (arith, ints); most = omega (arith, ints) }
    record { least = omega (arith, ints); most = omega (arith, ints) }
    record { least = omega (arith, ints); most = omega (arith, ints) }
    record { least = omega (arith, ints); most = omega (arith, ints) }
    (within_none (7 * 2 ^ 28))

-- a value rounded
pub round_fits : (h : ℤ) → IsWithin (7 * 2 ^ 28) h → FitsSigned w32 (kept h +ℤ pos 32)
round_fits h w = rw (kept_within (7 * 2 ^ 28) h (lit< tt) w) (omega (arith, ints))

shifted_within : (z : ℤ) → IsWithin (2 ^ 31 - 2) z → IsWithin (2 ^ 25) (shr_z z 64)
shifted_within (pos n) w = record { least = omega (arith, ints); most = omega (arith, ints) }
shifted_within (negsuc n) w = record { least = omega (arith, ints); most = omega (arith, ints) }

pub round_within : (h : ℤ) → IsWithin (7 * 2 ^ 28) h → IsWithin (2 ^ 25) (shr_z (h +ℤ pos 32) 64)
round_within h w = shifted_within (h +ℤ pos 32) record { least = omega (arith, ints); most = omega (arith, ints) }

pub round_is : (h : ℤ) → IsWithin (7 * 2 ^ 28) h → kept (shr_z (kept (kept h +ℤ pos 32)) 64) ≡ shr_z (h +ℤ pos 32) 64
round_is h w =
    let k = kept_within (7 * 2 ^ 28) h (lit< tt) w in
    let s : kept (h +ℤ pos 32) ≡ h +ℤ pos 32 = kept_fits _ (omega (arith, ints)) in
    let r = kept_within (2 ^ 25) _ (lit< tt) (round_within h w) in
    rw (k, s) r

-- a column, rounded
pub column_value : (r : List ℤ) (d0 d1 d2 d3 : ℤ) → IsWithin (2 ^ 29) d0 → IsWithin (2 ^ 29) d1 → IsWithin (2 ^ 29) d2 → IsWithin (2 ^ 29) d3 → r ≡ transformed (kept d0) (kept d1) (kept d2) (kept d3) → r ≡ transformed d0 d1 d2 d3
column_value r d0 d1 d2 d3 w0 w1 w2 w3 e = e ∙ transformed_kept d0 d1 d2 d3 w0 w1 w2 w3

pub column_within_r : (r : List ℤ) (d0 d1 d2 d3 : ℤ) → IsWithin (2 ^ 29) d0 → IsWithin (2 ^ 29) d1 → IsWithin (2 ^ 29) d2 → IsWithin (2 ^ 29) d3 → r ≡ transformed (kept d0) (kept d1) (kept d2) (kept d3) → (k : ℕ) → k < 4 → IsWithin (7 * 2 ^ 28) (value_at r k)
unfolding transformed
column_within_r r d0 d1 d2 d3 w0 w1 w2 w3 e k h =
    rw (column_value r d0 d1 d2 d3 w0 w1 w2 w3 e) (column_within d0 d1 d2 d3 w0 w1 w2 w3 k (pos 0) h)

pub column_is : (r : List ℤ) (d0 d1 d2 d3 : ℤ) → IsWithin (2 ^ 29) d0 → IsWithin (2 ^ 29) d1 → IsWithin (2 ^ 29) d2 → IsWithin (2 ^ 29) d3 → r ≡ transformed (kept d0) (kept d1) (kept d2) (kept d3)
    → kept (shr_z (kept (kept (value_at r 0) +ℤ pos 32)) 64) ∷ kept (shr_z (kept (kept (value_at r 1) +ℤ pos 32)) 64) ∷ kept (shr_z (kept (kept (value_at r 2) +ℤ pos 32)) 64) ∷ kept (shr_z (kept (kept (value_at r 3) +ℤ pos 32)) 64) ∷ []
    ≡ map (λ h. shr_z (h +ℤ pos 32) 64) (transformed d0 d1 d2 d3)
unfolding transformed
column_is r d0 d1 d2 d3 w0 w1 w2 w3 e =
    let w = column_within_r r d0 d1 d2 d3 w0 w1 w2 w3 e in
    let v = column_value r d0 d1 d2 d3 w0 w1 w2 w3 e in
    rw (round_is (value_at r 0) (w 0 (lit< tt)), round_is (value_at r 1) (w 1 (lit< tt)), round_is (value_at r 2) (w 2 (lit< tt)), round_is (value_at r 3) (w 3 (lit< tt)), v)
