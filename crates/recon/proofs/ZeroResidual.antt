-- A block without levels has no residual.
use Rattle.std.proofs.Common.{◌≡◌, ℕ, ◌+◌, ◌*◌, ◌<◌, zero, suc, Bool, true, false, cond, ◌||◌, not, List, [], ◌∷◌, Option, Some, None, refl, sym, ap, ◌∙◌, arith}
use Rattle.std.specs.Prelude.{replicate, ℤ, pos, ◌+ℤ◌, ◌*ℤ◌}
use Rattle.std.specs.Int.{int_shr}
use Rattle.std.specs.Ordering.{int_eq}
use Rattle.std.proofs.lemmas.List.{get_or-replicate}
use Rattle.std.proofs.lemmas.Bool.{false≢true}
use Rattle.std.proofs.lemmas.Bool.Decides.{Decides-int_eq}
use Rattle.std.proofs.lemmas.Int.{ints}
use Rattle.int_transform.specs.Residual.{in_scan_order, residual_at, sample_from, scale_at, scaled_at, transformed}
use Rattle.int_transform.specs.Scan.{scanned, value_at}
use Rattle.recon.specs.Marks.{has_levels}
use Rattle.recon.specs.Residuals.{HasNoDc, constructed}

both_fail : (t b : Bool) → (not t || b) ≡ false → (t ≡ true) × (b ≡ false)
both_fail true true e = absurd (false≢true (sym e))
both_fail true false e = (refl, refl)
both_fail false b e = absurd (false≢true (sym e))

front_zero : (x : ℤ) (b : Bool) → (not (int_eq x (pos 0)) || b) ≡ false → (x ≡ pos 0) × (b ≡ false)
front_zero x b e =
    let both = both_fail (int_eq x (pos 0)) b e in
    ((Decides-int_eq x (pos 0)).0 both.0, both.1)

pub zeros_from_test : (levels : List ℤ) → has_levels levels ≡ false → (k : ℕ) → value_at levels k ≡ pos 0
zeros_from_test [] e zero = refl
zeros_from_test [] e (suc k) = refl
zeros_from_test (x ∷ xs) e zero = (front_zero x (has_levels xs) e).0
zeros_from_test (x ∷ xs) e (suc k) = zeros_from_test xs (front_zero x (has_levels xs) e).1 k

pub in_order_zero : (levels : List ℤ) (dc : Option ℤ) → ((k : ℕ) → value_at levels k ≡ pos 0) → HasNoDc dc → (k : ℕ) → value_at (in_scan_order levels dc) k ≡ pos 0
in_order_zero levels None zeros none k = zeros k
in_order_zero levels (Some dc) zeros none zero = none
in_order_zero levels (Some dc) zeros none (suc k) = zeros k

times_zero : (b : Bool) (z : ℤ) (n : ℕ) → z ≡ pos 0 → cond b z (z *ℤ pos n) ≡ pos 0
times_zero true z n e = e
times_zero false z n e = omega (arith, ints, ap (λ t. t *ℤ pos n) e)

scaled_zero : (levels : List ℤ) (dc : Option ℤ) (qp row column : ℕ) → ((k : ℕ) → value_at levels k ≡ pos 0) → HasNoDc dc → scaled_at levels dc qp row column ≡ pos 0
unfolding scaled_at scanned
scaled_zero levels dc qp row column zeros none = times_zero _ _ (scale_at qp (4 * row + column)) (in_order_zero levels dc zeros none _)

transformed_zero : (a b c d : ℤ) → a ≡ pos 0 → b ≡ pos 0 → c ≡ pos 0 → d ≡ pos 0 → transformed a b c d ≡ replicate 4 (pos 0)
unfolding transformed
transformed_zero a b c d e f g h =
    let T : ℤ → ℤ → ℤ → ℤ → List ℤ = λ a b c d. transformed a b c d in
    let same : T a b c d ≡ T (pos 0) (pos 0) (pos 0) (pos 0) = cc in
    same

at_zero : (values : List ℤ) (k : ℕ) → k < 4 → values ≡ replicate 4 (pos 0) → value_at values k ≡ pos 0
at_zero values k lt e = ap (λ v. value_at v k) e ∙ get_or-replicate 4 k (pos 0) (pos 0) lt

rounded_zero : (z : ℤ) → z ≡ pos 0 → int_shr (z +ℤ pos 32) 6 ≡ pos 0
rounded_zero z e = ap (λ t. int_shr (t +ℤ pos 32) 6) e

pub residual_zero : (levels : List ℤ) (dc : Option ℤ) (qp row column : ℕ) → row < 4 → column < 4 → ((k : ℕ) → value_at levels k ≡ pos 0) → HasNoDc dc → residual_at levels dc qp row column ≡ pos 0
unfolding residual_at sample_from
residual_zero levels dc qp row column r c zeros none =
    let d = λ (i j : ℕ). scaled_zero levels dc qp i j zeros none in
    let f = λ (i : ℕ). transformed_zero _ _ _ _ (d i 0) (d i 1) (d i 2) (d i 3) in
    let g = λ (i : ℕ). at_zero _ column c (f i) in
    rounded_zero _ (at_zero _ row r (transformed_zero _ _ _ _ (g 0) (g 1) (g 2) (g 3)))

pub constructed_zero : (p : ℕ) (z : ℤ) → p < 256 → z ≡ pos 0 → constructed p z ≡ p
constructed_zero p z lt e = ap (λ t. constructed p t) e ∙ omega arith

-- a sample that nothing is added to, whether in the block or not
pub sample_stays : (b : Bool) (p : ℕ) (z : ℤ) → p < 256 → z ≡ pos 0 → p ≡ cond b (constructed p z) p
sample_stays true p z lt e = sym (constructed_zero p z lt e)
sample_stays false p z lt e = refl
