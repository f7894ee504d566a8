-- DC values: the sums, and what scales them.
use Rattle.std.proofs.Common.{◌≡◌, ℕ, zero, suc, ◌+◌, ◌-◌, ◌*◌, ◌/◌, ◌%◌, ◌^◌, ◌<◌, ◌≤◌, false, cond, ltb, ℤ, pos, negsuc, neg_ℤ, ◌+ℤ◌, ◌-ℤ◌, ◌*ℤ◌, List, [], ◌∷◌, length, map, lit<, lit≤, refl, sym, ap, ◌∙◌, subst, arith}
use Rattle.std.proofs.lemmas.Bool.{le-ltb}
use Rattle.std.proofs.lemmas.Int.{ints}
use Rattle.std.proofs.Math.Nat.{mul_assoc, pow-suc}
use lib.Signed.{shr_z}
use Rattle.cb_tables.specs.LevelScale.{level_scale_at}
use Rattle.int_transform.specs.Bounds.{AreWithin, IsWithin}
use Rattle.int_transform.specs.DcBlocks.{chroma_dc_at, dc_from, luma_dc_at, scaled_dc, times_four, times_two}
use Rattle.int_transform.specs.Residual.{scale_at}
use Rattle.int_transform.specs.Scan.{scan_rows, scanned, value_at}
use Rattle.int_transform.proofs.Columns.{IsColumn}
use Rattle.int_transform.proofs.Places.{by_four, by_two, within_four, within_none}
use Rattle.int_transform.proofs.Scales.{product_within, within_wider}
use Rattle.int_transform.proofs.Whole.{kept, kept_fits, kept_within}

-- ---- sums of four

sum_kept : (a b : ℤ) → IsWithin (2 ^ 15) a → IsWithin (2 ^ 15) b → kept (a +ℤ b) ≡ a +ℤ b
sum_kept a b wa wb = kept_fits _ (omega (arith, ints))

difference_kept : (a b : ℤ) → IsWithin (2 ^ 15) a → IsWithin (2 ^ 15) b → kept (a -ℤ b) ≡ a -ℤ b
difference_kept a b wa wb = kept_fits _ (omega (arith, ints))

sum_within : (n : ℕ) (a b : ℤ) → IsWithin n a → IsWithin n b → IsWithin (2 * n) (a +ℤ b)
sum_within n a b wa wb = record { least = omega (arith, ints); most = omega (arith, ints) }

difference_within : (n : ℕ) (a b : ℤ) → IsWithin n a → IsWithin n b → IsWithin (2 * n) (a -ℤ b)
difference_within n a b wa wb = record { least = omega (arith, ints); most = omega (arith, ints) }

pub all_added : (a b c d : ℤ) → (a +ℤ b) +ℤ (c +ℤ d) ≡ a +ℤ b +ℤ c +ℤ d
all_added a b c d = omega (arith, ints)

pub back_taken : (a b c d : ℤ) → (a +ℤ b) -ℤ (c +ℤ d) ≡ a +ℤ b -ℤ c -ℤ d
back_taken a b c d = omega (arith, ints)

pub middle_taken : (a b c d : ℤ) → (a -ℤ b) -ℤ (c -ℤ d) ≡ a -ℤ b -ℤ c +ℤ d
middle_taken a b c d = omega (arith, ints)

pub odd_taken : (a b c d : ℤ) → (a -ℤ b) +ℤ (c -ℤ d) ≡ a -ℤ b +ℤ c -ℤ d
odd_taken a b c d = omega (arith, ints)

pub times_four_is : (c0 c1 c2 c3 : ℤ) → IsWithin (2 ^ 14) c0 → IsWithin (2 ^ 14) c1 → IsWithin (2 ^ 14) c2 → IsWithin (2 ^ 14) c3
    → kept (kept (kept c0 +ℤ kept c1) +ℤ kept (kept c2 +ℤ kept c3)) ∷ kept (kept (kept c0 +ℤ kept c1) -ℤ kept (kept c2 +ℤ kept c3)) ∷ kept (kept (kept c0 -ℤ kept c1) -ℤ kept (kept c2 -ℤ kept c3)) ∷ kept (kept (kept c0 -ℤ kept c1) +ℤ kept (kept c2 -ℤ kept c3)) ∷ []
    ≡ times_four c0 c1 c2 c3
unfolding times_four
times_four_is c0 c1 c2 c3 w0 w1 w2 w3 =
    let k0 = kept_within (2 ^ 14) c0 (lit< tt) w0 in
    let k1 = kept_within (2 ^ 14) c1 (lit< tt) w1 in
    let k2 = kept_within (2 ^ 14) c2 (lit< tt) w2 in
    let k3 = kept_within (2 ^ 14) c3 (lit< tt) w3 in
    let front_sum = sum_within (2 ^ 14) c0 c1 w0 w1 in
    let front_difference = difference_within (2 ^ 14) c0 c1 w0 w1 in
    let back_sum = sum_within (2 ^ 14) c2 c3 w2 w3 in
    let back_difference = difference_within (2 ^ 14) c2 c3 w2 w3 in
    let k4 = kept_within (2 ^ 15) (c0 +ℤ c1) (lit< tt) front_sum in
    let k5 = kept_within (2 ^ 15) (c0 -ℤ c1) (lit< tt) front_difference in
    let k6 = kept_within (2 ^ 15) (c2 +ℤ c3) (lit< tt) back_sum in
    let k7 = kept_within (2 ^ 15) (c2 -ℤ c3) (lit< tt) back_difference in
    let e0 = sum_kept (c0 +ℤ c1) (c2 +ℤ c3) front_sum back_sum ∙ all_added c0 c1 c2 c3 in
    let e1 = difference_kept (c0 +ℤ c1) (c2 +ℤ c3) front_sum back_sum ∙ back_taken c0 c1 c2 c3 in
    let e2 = difference_kept (c0 -ℤ c1) (c2 -ℤ c3) front_difference back_difference ∙ middle_taken c0 c1 c2 c3 in
    let e3 = sum_kept (c0 -ℤ c1) (c2 -ℤ c3) front_difference back_difference ∙ odd_taken c0 c1 c2 c3 in
    rw (k0, k1, k2, k3, k4, k5, k6, k7, e0, e1, e2, e3)

pub times_four_kept : (c0 c1 c2 c3 : ℤ) → IsWithin (2 ^ 14) c0 → IsWithin (2 ^ 14) c1 → IsWithin (2 ^ 14) c2 → IsWithin (2 ^ 14) c3 → times_four (kept c0) (kept c1) (kept c2) (kept c3) ≡ times_four c0 c1 c2 c3
times_four_kept c0 c1 c2 c3 w0 w1 w2 w3 =
    let k0 = kept_within (2 ^ 14) c0 (lit< tt) w0 in
    let k1 = kept_within (2 ^ 14) c1 (lit< tt) w1 in
    let k2 = kept_within (2 ^ 14) c2 (lit< tt) w2 in
    let k3 = kept_within (2 ^ 14) c3 (lit< tt) w3 in
    rw (k0, k1, k2, k3)

pub times_four_within : (n : ℕ) (c0 c1 c2 c3 : ℤ) → IsWithin n c0 → IsWithin n c1 → IsWithin n c2 → IsWithin n c3 → AreWithin (4 * n) (times_four c0 c1 c2 c3)
unfolding times_four
times_four_within n c0 c1 c2 c3 w0 w1 w2 w3 =
    within_four (4 * n) _ _ _ _ []
    record { least = omega (arith, ints); most = omega (arith, ints) }
    record { least = omega (arith, ints); most = omega (arith, ints) }
    record { least = omega (arith, ints); most = omega (arith, ints) }
    record { least = omega (arith, ints); most = omega (arith, ints) }
    (within_none (4 * n))

-- ---- a quarter, rounded

quarter : (z : ℤ) → shr_z (z *ℤ pos 4 +ℤ pos 2) 4 ≡ z
quarter (pos n) = ap pos (omega arith)
quarter (negsuc n) =
    let e : negsuc n *ℤ pos 4 +ℤ pos 2 ≡ negsuc (4 * n + 1) = omega (arith, ints) in
    ap (λ z. shr_z z 4) e ∙ ap negsuc (omega arith)

quarter_of_double : (z : ℤ) → shr_z (z *ℤ pos 2 +ℤ pos 2) 4 ≡ shr_z (z +ℤ pos 1) 2
quarter_of_double (pos n) = ap pos (omega arith)
quarter_of_double (negsuc zero) = refl
quarter_of_double (negsuc (suc n)) =
    let e : negsuc (suc n) *ℤ pos 2 +ℤ pos 2 ≡ negsuc (2 * n + 1) = omega (arith, ints) in
    let f : negsuc (suc n) +ℤ pos 1 ≡ negsuc n = omega (arith, ints) in
    ap (λ z. shr_z z 4) e ∙ (ap negsuc (omega arith) ∙ sym (ap (λ z. shr_z z 2) f))

minus_times : (n k : ℕ) → neg_ℤ (pos n) *ℤ pos k ≡ neg_ℤ (pos (n * k))
minus_times zero k = let e : 0 * k ≡ 0 = omega arith in rw e
minus_times (suc n) k = refl

by_parts : (f : ℤ) (m k : ℕ) → f *ℤ pos (m * k) ≡ f *ℤ pos m *ℤ pos k
by_parts (pos a) m k = ap pos (sym (mul_assoc a m k))
by_parts (negsuc a) m k = ap (λ (n : ℕ). neg_ℤ (pos n)) (sym (mul_assoc (suc a) m k)) ∙ sym (minus_times (suc a * m) k)

-- one rounding for every QP
rounded_at : (f : ℤ) (v q : ℕ) → shr_z (f *ℤ pos (v * 2 ^ q) +ℤ pos 2) 4 ≡ cond (ltb q 2) (shr_z (f *ℤ pos v +ℤ pos (2 ^ (1 - q))) (2 ^ (2 - q))) (f *ℤ pos (v * 2 ^ (q - 2)))
rounded_at f v zero = ap (λ (m : ℕ). shr_z (f *ℤ pos m +ℤ pos 2) 4) (omega arith)
rounded_at f v (suc zero) = ap (λ z. shr_z (z +ℤ pos 2) 4) (by_parts f v 2) ∙ quarter_of_double (f *ℤ pos v)
rounded_at f v (suc (suc q)) =
    let power : 2 ^ suc (suc q) ≡ 2 ^ q * 2 * 2 = pow-suc 2 (suc q) ∙ ap (λ (n : ℕ). n * 2) (pow-suc 2 q) in
    let four : v * 2 ^ suc (suc q) ≡ v * 2 ^ q * 4 = ap (λ (n : ℕ). v * n) power ∙ omega arith in
    let high : ltb (suc (suc q)) 2 ≡ false = le-ltb _ _ (omega arith) in
    let less : suc (suc q) - 2 ≡ q = omega arith in
    rw (high, less) (ap (λ (m : ℕ). shr_z (f *ℤ pos m +ℤ pos 2) 4) four ∙ (ap (λ z. shr_z (z +ℤ pos 2) 4) (by_parts f (v * 2 ^ q) 4) ∙ quarter (f *ℤ pos (v * 2 ^ q))))

scaled_is : (f : ℤ) (qp : ℕ) → shr_z (f *ℤ pos (scale_at qp 0) +ℤ pos 2) 4 ≡ scaled_dc f qp
unfolding scale_at scaled_dc
scaled_is f qp = rounded_at f (level_scale_at (qp % 6) 0) (qp / 6)

-- ---- a scaled value, as the code keeps it

shifted_by_four : (n : ℕ) (z : ℤ) → IsWithin (4 * n) z → IsWithin n (shr_z z 4)
shifted_by_four n (pos a) w = record { least = omega (arith, ints); most = omega (arith, ints) }
shifted_by_four n (negsuc a) w = record { least = omega (arith, ints); most = omega (arith, ints) }

shifted_by_two : (n : ℕ) (z : ℤ) → IsWithin (2 * n) z → IsWithin n (shr_z z 2)
shifted_by_two n (pos a) w = record { least = omega (arith, ints); most = omega (arith, ints) }
shifted_by_two n (negsuc a) w = record { least = omega (arith, ints); most = omega (arith, ints) }

-- what the code computes for f and a scale, and that it is small
pub record Scaled (f s : ℤ) : Type 0 where
  pub is : kept (shr_z (kept (kept (kept f *ℤ kept s) +ℤ pos 2)) 4) ≡ shr_z (f *ℤ s +ℤ pos 2) 4
  pub within : IsWithin (2 ^ 27) (shr_z (f *ℤ s +ℤ pos 2) 4)

pub scaled : (f s : ℤ) → IsWithin (2 ^ 16) f → IsWithin (29 * 2 ^ 8) s → Scaled f s
scaled f s wf ws =
    let kf = kept_within (2 ^ 16) f (lit< tt) wf in
    let ks = kept_within (29 * 2 ^ 8) s (lit< tt) ws in
    let product = product_within (2 ^ 16) (29 * 2 ^ 8) f s wf ws in
    let kp = kept_within _ (f *ℤ s) (lit< tt) product in
    let sum : IsWithin (2 ^ 29) (f *ℤ s +ℤ pos 2) = record { least = omega (arith, ints); most = omega (arith, ints) } in
    let ksum = kept_within (2 ^ 29) _ (lit< tt) sum in
    let small = shifted_by_four (2 ^ 27) _ sum in
    let kr = kept_within (2 ^ 27) _ (lit< tt) small in
    record { is = rw (kf, ks, kp, ksum) kr; within = small }

pub dc_is : (f s : ℤ) (qp : ℕ) → IsWithin (2 ^ 16) f → IsWithin (29 * 2 ^ 8) s → s ≡ pos (scale_at qp 0) → kept (shr_z (kept (kept (kept f *ℤ kept s) +ℤ pos 2)) 4) ≡ scaled_dc f qp
dc_is f s qp wf ws es = (scaled f s wf ws).is ∙ (ap (λ z. shr_z (f *ℤ z +ℤ pos 2) 4) es ∙ scaled_is f qp)

pub dc_within : (f s : ℤ) → IsWithin (2 ^ 16) f → IsWithin (29 * 2 ^ 8) s → IsWithin (2 ^ 27) (kept (shr_z (kept (kept (kept f *ℤ kept s) +ℤ pos 2)) 4))
dc_within f s wf ws = let r = scaled f s wf ws in subst (IsWithin (2 ^ 27)) (sym r.is) r.within

pub record Halved (f s : ℤ) : Type 0 where
  pub is : kept (shr_z (kept (kept f *ℤ kept s)) 2) ≡ shr_z (f *ℤ s) 2
  pub within : IsWithin (2 ^ 27) (kept (shr_z (kept (kept f *ℤ kept s)) 2))

pub halved : (f s : ℤ) → IsWithin (2 ^ 14) f → IsWithin (29 * 2 ^ 8) s → Halved f s
halved f s wf ws =
    let kf = kept_within (2 ^ 14) f (lit< tt) wf in
    let ks = kept_within (29 * 2 ^ 8) s (lit< tt) ws in
    let product = product_within (2 ^ 14) (29 * 2 ^ 8) f s wf ws in
    let kp = kept_within _ (f *ℤ s) (lit< tt) product in
    let wide : IsWithin (2 ^ 28) (f *ℤ s) = within_wider _ (2 ^ 28) _ (lit≤ tt) product in
    let small = shifted_by_two (2 ^ 27) _ wide in
    let kr = kept_within (2 ^ 27) _ (lit< tt) small in
    let is : kept (shr_z (kept (kept f *ℤ kept s)) 2) ≡ shr_z (f *ℤ s) 2 = rw (kf, ks, kp) kr in
    record { is = is; within = subst (IsWithin (2 ^ 27)) (sym is) small }

-- ---- what a product's values are

-- four values within n, and the values that they are
pub record AreValues (n : ℕ) (xs r : List ℤ) : Type 0 where
  pub is : r ≡ xs
  pub within : (k : ℕ) → k < 4 → IsWithin n (value_at r k)

pub product_of : (n : ℕ) (c0 c1 c2 c3 : ℤ) (r : List ℤ) → n ≤ 2 ^ 14 → IsWithin n c0 → IsWithin n c1 → IsWithin n c2 → IsWithin n c3 → r ≡ times_four (kept c0) (kept c1) (kept c2) (kept c3) → AreValues (4 * n) (times_four c0 c1 c2 c3) r
unfolding times_four
product_of n c0 c1 c2 c3 r h w0 w1 w2 w3 e =
    let wide : (z : ℤ) → IsWithin n z → IsWithin (2 ^ 14) z = λ z w. within_wider n (2 ^ 14) z h w in
    let is = e ∙ times_four_kept c0 c1 c2 c3 (wide c0 w0) (wide c1 w1) (wide c2 w2) (wide c3 w3) in
    record { is = is; within = λ k below. subst (λ (x : List ℤ). IsWithin (4 * n) (value_at x k)) (sym is) (times_four_within n c0 c1 c2 c3 w0 w1 w2 w3 k (pos 0) below) }

-- a value of the product, scaled
pub value_scaled : (n : ℕ) (xs r : List ℤ) (k qp : ℕ) (d : ℤ) → n ≤ 2 ^ 16 → AreValues n xs r → k < 4 → d ≡ scaled_dc (kept (value_at r k)) qp → d ≡ scaled_dc (value_at xs k) qp
value_scaled n xs r k qp d h v below e =
    e ∙ (ap (λ z. scaled_dc z qp) (kept_within (2 ^ 16) _ (lit< tt) (within_wider n (2 ^ 16) _ h (v.within k below))) ∙ ap (λ (x : List ℤ). scaled_dc (value_at x k) qp) v.is)

-- a column of DC values
pub dc_column_is : (first second third fourth : List ℤ) (column qp : ℕ) (a : List ℤ)
    → IsWithin (2 ^ 14) (value_at first column) → IsWithin (2 ^ 14) (value_at second column) → IsWithin (2 ^ 14) (value_at third column) → IsWithin (2 ^ 14) (value_at fourth column)
    → a ≡ map (λ f. scaled_dc f qp) (times_four (kept (value_at first column)) (kept (value_at second column)) (kept (value_at third column)) (kept (value_at fourth column)))
    → ((k : ℕ) → k < 4 → IsWithin (2 ^ 27) (value_at a k))
    → IsColumn (2 ^ 27) (λ row. dc_from first second third fourth qp row column) a
unfolding times_four dc_from
dc_column_is first second third fourth column qp a w0 w1 w2 w3 e small =
    let fs : List ℤ = times_four (value_at first column) (value_at second column) (value_at third column) (value_at fourth column) in
    let is : a ≡ map (λ f. scaled_dc f qp) fs = e ∙ ap (λ (x : List ℤ). map (λ f. scaled_dc f qp) x) (times_four_kept _ _ _ _ w0 w1 w2 w3) in
    let value : (row : ℕ) → row < 4 → value_at a row ≡ scaled_dc (value_at fs row) qp =
    by_four (λ row. value_at a row ≡ scaled_dc (value_at fs row) qp)
    (ap (λ (x : List ℤ). value_at x 0) is)
    (ap (λ (x : List ℤ). value_at x 1) is)
    (ap (λ (x : List ℤ). value_at x 2) is)
    (ap (λ (x : List ℤ). value_at x 3) is) in
    record { values = value; within = small }

-- the four DC values of a column
pub column_values : (c0 c1 c2 c3 d0 d1 d2 d3 : ℤ) (r : List ℤ) (qp : ℕ) → AreValues (2 ^ 16) (times_four c0 c1 c2 c3) r
    → IsWithin (2 ^ 27) d0 → IsWithin (2 ^ 27) d1 → IsWithin (2 ^ 27) d2 → IsWithin (2 ^ 27) d3
    → d0 ≡ scaled_dc (kept (value_at r 0)) qp → d1 ≡ scaled_dc (kept (value_at r 1)) qp → d2 ≡ scaled_dc (kept (value_at r 2)) qp → d3 ≡ scaled_dc (kept (value_at r 3)) qp
    → kept d0 ∷ kept d1 ∷ kept d2 ∷ kept d3 ∷ [] ≡ map (λ f. scaled_dc f qp) (times_four c0 c1 c2 c3)
unfolding times_four
column_values c0 c1 c2 c3 d0 d1 d2 d3 r qp v w0 w1 w2 w3 e0 e1 e2 e3 =
    let xs : List ℤ = times_four c0 c1 c2 c3 in
    let at : (k : ℕ) (d : ℤ) → k < 4 → IsWithin (2 ^ 27) d → d ≡ scaled_dc (kept (value_at r k)) qp → kept d ≡ scaled_dc (value_at xs k) qp =
    λ k d below w e. kept_within (2 ^ 27) d (lit< tt) w ∙ value_scaled (2 ^ 16) xs r k qp d (lit≤ tt) v below e in
    let f0 = at 0 d0 (lit< tt) w0 e0 in
    let f1 = at 1 d1 (lit< tt) w1 e1 in
    let f2 = at 2 d2 (lit< tt) w2 e2 in
    let f3 = at 3 d3 (lit< tt) w3 e3 in
    rw (f0, f1, f2, f3)

-- ---- the luma blocks

pub luma_is : (levels : List ℤ) (first second third fourth : List ℤ) (qp : ℕ)
    → first ≡ times_four (value_at levels 0) (value_at levels 1) (value_at levels 5) (value_at levels 6)
    → second ≡ times_four (value_at levels 2) (value_at levels 4) (value_at levels 7) (value_at levels 12)
    → third ≡ times_four (value_at levels 3) (value_at levels 8) (value_at levels 11) (value_at levels 13)
    → fourth ≡ times_four (value_at levels 9) (value_at levels 10) (value_at levels 14) (value_at levels 15)
    → (row column : ℕ) → dc_from first second third fourth qp row column ≡ luma_dc_at levels qp row column
unfolding luma_dc_at scanned scan_rows
luma_is levels first second third fourth qp e0 e1 e2 e3 row column = rw (e0, e1, e2, e3)

-- a row of the product, from levels
pub levels_row : (levels : List ℤ) (i j k l : ℕ) (r : List ℤ) → AreWithin 4096 levels → length levels ≡ 16 → i < 16 → j < 16 → k < 16 → l < 16
    → r ≡ times_four (kept (value_at levels i)) (kept (value_at levels j)) (kept (value_at levels k)) (kept (value_at levels l)) → AreValues (2 ^ 14) (times_four (value_at levels i) (value_at levels j) (value_at levels k) (value_at levels l)) r
levels_row levels i j k l r w count hi hj hk hl e =
    product_of 4096 _ _ _ _ r (lit≤ tt) (w i (pos 0) (omega arith)) (w j (pos 0) (omega arith)) (w k (pos 0) (omega arith)) (w l (pos 0) (omega arith)) e

pub levels_row_within : (levels : List ℤ) (i j k l : ℕ) (r : List ℤ) → AreWithin 4096 levels → length levels ≡ 16 → i < 16 → j < 16 → k < 16 → l < 16
    → r ≡ times_four (kept (value_at levels i)) (kept (value_at levels j)) (kept (value_at levels k)) (kept (value_at levels l)) → AreWithin (2 ^ 14) r
levels_row_within levels i j k l r w count hi hj hk hl e =
    let v = levels_row levels i j k l r w count hi hj hk hl e in
    subst (AreWithin (2 ^ 14)) (sym v.is) (times_four_within 4096 _ _ _ _ (w i (pos 0) (omega arith)) (w j (pos 0) (omega arith)) (w k (pos 0) (omega arith)) (w l (pos 0) (omega arith)))

-- ---- the chroma blocks

pub chroma_row : (c r : List ℤ) → AreWithin 4096 c → length c ≡ 4 → r ≡ times_four (kept (value_at c 0)) (kept (value_at c 1)) (kept (value_at c 2)) (kept (value_at c 3)) → AreValues (2 ^ 14) (times_four (value_at c 0) (value_at c 1) (value_at c 2) (value_at c 3)) r
chroma_row c r w count e =
    product_of 4096 _ _ _ _ r (lit≤ tt) (w 0 (pos 0) (omega arith)) (w 1 (pos 0) (omega arith)) (w 2 (pos 0) (omega arith)) (w 3 (pos 0) (omega arith)) e

pub chroma_is : (c : List ℤ) (qpc : ℕ) (r : List ℤ) (s d0 d1 d2 d3 : ℤ) → AreValues (2 ^ 14) (times_four (value_at c 0) (value_at c 1) (value_at c 2) (value_at c 3)) r → kept s ≡ pos (scale_at qpc 0)
    → IsWithin (2 ^ 27) d0 → IsWithin (2 ^ 27) d1 → IsWithin (2 ^ 27) d2 → IsWithin (2 ^ 27) d3
    → d0 ≡ shr_z (kept (value_at r 0) *ℤ kept s) 2 → d1 ≡ shr_z (kept (value_at r 3) *ℤ kept s) 2 → d2 ≡ shr_z (kept (value_at r 1) *ℤ kept s) 2 → d3 ≡ shr_z (kept (value_at r 2) *ℤ kept s) 2
    → (row column : ℕ) → row < 2 → column < 2 → value_at (kept d0 ∷ kept d1 ∷ kept d2 ∷ kept d3 ∷ []) (2 * row + column) ≡ chroma_dc_at c qpc row column
unfolding times_four chroma_dc_at times_two
chroma_is c qpc r s d0 d1 d2 d3 v es w0 w1 w2 w3 e0 e1 e2 e3 row column hr hc =
    let R : ℕ → ℕ → Type 0 = λ row column. value_at (kept d0 ∷ kept d1 ∷ kept d2 ∷ kept d3 ∷ []) (2 * row + column) ≡ chroma_dc_at c qpc row column in
    let c0 = value_at c 0 in
    let c1 = value_at c 1 in
    let c2 = value_at c 2 in
    let c3 = value_at c 3 in
    let xs : List ℤ = times_four c0 c1 c2 c3 in
    let at : (k : ℕ) (d : ℤ) → k < 4 → IsWithin (2 ^ 27) d → d ≡ shr_z (kept (value_at r k) *ℤ kept s) 2 → kept d ≡ shr_z (value_at xs k *ℤ pos (scale_at qpc 0)) 2 =
    λ k d below w e.
    kept_within (2 ^ 27) d (lit< tt) w ∙ (e ∙ (ap (λ z. shr_z (z *ℤ kept s) 2) (kept_within (2 ^ 14) _ (lit< tt) (v.within k below)) ∙ (ap (λ (x : List ℤ). shr_z (value_at x k *ℤ kept s) 2) v.is ∙ ap (λ z. shr_z (value_at xs k *ℤ z) 2) es))) in
    let half_of = λ (z : ℤ). shr_z (z *ℤ pos (scale_at qpc 0)) 2 in
    by_two (λ row. (column : ℕ) → column < 2 → R row column)
    (by_two (R 0) (at 0 d0 (lit< tt) w0 e0 ∙ ap half_of (sym (all_added c0 c1 c2 c3))) (at 3 d1 (lit< tt) w1 e1 ∙ ap half_of (sym (odd_taken c0 c1 c2 c3))))
    (by_two (R 1) (at 1 d2 (lit< tt) w2 e2 ∙ ap half_of (sym (back_taken c0 c1 c2 c3))) (at 2 d3 (lit< tt) w3 e3 ∙ ap half_of (sym (middle_taken c0 c1 c2 c3))))
    row hr column hc
