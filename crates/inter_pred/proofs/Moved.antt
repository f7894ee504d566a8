-- Places that lie whole samples further on.
use Rattle.std.proofs.Common.{◌≡◌, ℕ, ◌+◌, ◌-◌, ◌*◌, ◌<◌, ◌≤◌, suc, inl, inr, ℤ, pos, negsuc, ◌+ℤ◌, ◌-ℤ◌, FitsSigned, to_z, of_z, w64, sym, ap, ap₂, ◌∙◌, arith}
use Rattle.std.proofs.lemmas.Bool.{cases_lt}
use Rattle.std.specs.Prelude.{unsigned_abs}
use Rattle.std.specs.Int.{int_div_euclid, int_rem_euclid}
use Rattle.std.proofs.lemmas.Int.{ints, to_z-of_z}
use Rattle.vd_plane.specs.SampleArray.{SampleArray, nearest_sample}
use Rattle.inter_pred.specs.Chroma.{chroma_at, eighth}
use Rattle.inter_pred.specs.Luma.{luma_at, near, quarter}
use Rattle.inter_pred.specs.Places.{fraction, whole}
use Rattle.inter_pred.proofs.RowsOf.{six}

-- a sum that passes 0, and one that stays below
over : (a b : ℕ) → a < b → negsuc a +ℤ pos b ≡ pos (b - suc a)
over a b lt = omega (arith, ints)

under : (a b : ℕ) → b ≤ a → negsuc a +ℤ pos b ≡ negsuc (a - b)
under a b le = omega (arith, ints)

pub whole_4 : (z : ℤ) (i : ℕ) → whole (z +ℤ pos (4 * i)) 4 ≡ whole z 4 +ℤ pos i
whole_4 (pos a) i = omega (arith, ints)
whole_4 (negsuc a) i = elim (cases_lt a (4 * i)) [
  | inl lt ↦ ap (λ z. whole z 4) (over a (4 * i) lt) ∙ omega (arith, ints)
  | inr le ↦ ap (λ z. whole z 4) (under a (4 * i) le) ∙ omega (arith, ints)
]

pub fraction_4 : (z : ℤ) (i : ℕ) → fraction (z +ℤ pos (4 * i)) 4 ≡ fraction z 4
fraction_4 (pos a) i = omega (arith, ints)
fraction_4 (negsuc a) i = elim (cases_lt a (4 * i)) [
  | inl lt ↦ ap (λ z. fraction z 4) (over a (4 * i) lt) ∙ omega (arith, ints)
  | inr le ↦ ap (λ z. fraction z 4) (under a (4 * i) le) ∙ omega (arith, ints)
]

pub whole_8 : (z : ℤ) (i : ℕ) → whole (z +ℤ pos (8 * i)) 8 ≡ whole z 8 +ℤ pos i
whole_8 (pos a) i = omega (arith, ints)
whole_8 (negsuc a) i = elim (cases_lt a (8 * i)) [
  | inl lt ↦ ap (λ z. whole z 8) (over a (8 * i) lt) ∙ omega (arith, ints)
  | inr le ↦ ap (λ z. whole z 8) (under a (8 * i) le) ∙ omega (arith, ints)
]

pub fraction_8 : (z : ℤ) (i : ℕ) → fraction (z +ℤ pos (8 * i)) 8 ≡ fraction z 8
fraction_8 (pos a) i = omega (arith, ints)
fraction_8 (negsuc a) i = elim (cases_lt a (8 * i)) [
  | inl lt ↦ ap (λ z. fraction z 8) (over a (8 * i) lt) ∙ omega (arith, ints)
  | inr le ↦ ap (λ z. fraction z 8) (under a (8 * i) le) ∙ omega (arith, ints)
]

-- the place of a luma sample so many samples further on
pub luma_moved : (a : SampleArray) (x y : ℤ) (i j : ℕ) → luma_at a (x +ℤ pos (4 * i)) (y +ℤ pos (4 * j)) ≡ quarter (near a (whole x 4 +ℤ pos i) (whole y 4 +ℤ pos j)) (fraction x 4) (fraction y 4)
unfolding luma_at
luma_moved a x y i j =
    ap₂ (λ u v. quarter (near a u v) (fraction (x +ℤ pos (4 * i)) 4) (fraction (y +ℤ pos (4 * j)) 4)) (whole_4 x i) (whole_4 y j)
    ∙ ap₂ (λ u v. quarter (near a (whole x 4 +ℤ pos i) (whole y 4 +ℤ pos j)) u v) (fraction_4 x i) (fraction_4 y j)

pub chroma_moved : (a : SampleArray) (x y : ℤ) (i j : ℕ) → chroma_at a (x +ℤ pos (8 * i)) (y +ℤ pos (8 * j)) ≡ eighth (fraction x 8) (fraction y 8) (nearest_sample a (whole x 8 +ℤ pos i) (whole y 8 +ℤ pos j)) (nearest_sample a (whole x 8 +ℤ pos (i + 1)) (whole y 8 +ℤ pos j)) (nearest_sample a (whole x 8 +ℤ pos i) (whole y 8 +ℤ pos (j + 1))) (nearest_sample a (whole x 8 +ℤ pos (i + 1)) (whole y 8 +ℤ pos (j + 1)))
unfolding chroma_at
chroma_moved a x y i j =
    let at = λ (z : ℤ) (k d : ℕ). let moved : (whole z 8 +ℤ pos k) +ℤ pos d ≡ whole z 8 +ℤ pos (k + d) = omega (arith, ints) in ap (λ u. u +ℤ pos d) (whole_8 z k) ∙ moved in
    let none = λ (z : ℤ) (k : ℕ). let same : whole z 8 +ℤ pos (k + 0) ≡ whole z 8 +ℤ pos k = omega (arith, ints) in at z k 0 ∙ same in
    let f = λ (u v : ℤ). nearest_sample a u v in
    six eighth _ _ _ _ _ _ _ _ _ _ _ _ (fraction_8 x i) (fraction_8 y j) (ap₂ f (none x i) (none y j)) (ap₂ f (at x i 1) (none y j)) (ap₂ f (none x i) (at y j 1)) (ap₂ f (at x i 1) (at y j 1))

-- without a fraction, a whole sample
pub luma_whole : (a : SampleArray) (x y : ℤ) (right below : ℕ) → right ≡ 0 → below ≡ 0 → quarter (near a x y) right below ≡ nearest_sample a x y
unfolding quarter
luma_whole a x y right below no_right no_below =
    let column : (x -ℤ pos 2) +ℤ pos 2 ≡ x = omega (arith, ints) in
    let row : (y -ℤ pos 2) +ℤ pos 2 ≡ y = omega (arith, ints) in
    ap₂ (λ u v. quarter (near a x y) u v) no_right no_below ∙ ap₂ (nearest_sample a) column row

pub eighth_whole : (right below p q r s : ℕ) → right ≡ 0 → below ≡ 0 → eighth right below p q r s ≡ p
unfolding eighth
eighth_whole right below p q r s no_right no_below = ap₂ (λ u v. eighth u v p q r s) no_right no_below ∙ omega arith

-- the parts of a place, as they are computed
pub fraction_is : (n : ℕ) (z r : ℤ) → FitsSigned w64 z → FitsSigned w64 r → r ≡ int_rem_euclid (to_z w64 (of_z w64 z)) (pos n) → unsigned_abs (to_z w64 (of_z w64 r)) ≡ fraction z n
fraction_is n z r z_fits r_fits is = ap unsigned_abs (to_z-of_z w64 r r_fits ∙ (is ∙ ap (λ u. int_rem_euclid u (pos n)) (to_z-of_z w64 z z_fits)))

pub whole_is : (n : ℕ) (z q : ℤ) → FitsSigned w64 z → FitsSigned w64 q → q ≡ int_div_euclid (to_z w64 (of_z w64 z)) (pos n) → to_z w64 (of_z w64 q) ≡ whole z n
whole_is n z q z_fits q_fits is = to_z-of_z w64 q q_fits ∙ (is ∙ ap (λ u. int_div_euclid u (pos n)) (to_z-of_z w64 z z_fits))

pub luma_from : (a : SampleArray) (x y column row : ℤ) (right below i j : ℕ) → column ≡ whole x 4 → row ≡ whole y 4 → right ≡ fraction x 4 → below ≡ fraction y 4
    → quarter (near a (column +ℤ pos i) (row +ℤ pos j)) right below ≡ luma_at a (x +ℤ pos (4 * i)) (y +ℤ pos (4 * j))
luma_from a x y column row right below i j is_column is_row is_right is_below =
    ap₂ (λ u v. quarter (near a (u +ℤ pos i) (v +ℤ pos j)) right below) is_column is_row
    ∙ (ap₂ (λ u v. quarter (near a (whole x 4 +ℤ pos i) (whole y 4 +ℤ pos j)) u v) is_right is_below ∙ sym (luma_moved a x y i j))

abbrev pub four : SampleArray → ℤ → ℤ → ℕ → ℕ → ℕ → ℕ → ℕ
four a column row right below i j = eighth right below (nearest_sample a (column +ℤ pos i) (row +ℤ pos j)) (nearest_sample a (column +ℤ pos (i + 1)) (row +ℤ pos j)) (nearest_sample a (column +ℤ pos i) (row +ℤ pos (j + 1))) (nearest_sample a (column +ℤ pos (i + 1)) (row +ℤ pos (j + 1)))

pub chroma_from : (a : SampleArray) (x y column row : ℤ) (right below i j : ℕ) → column ≡ whole x 8 → row ≡ whole y 8 → right ≡ fraction x 8 → below ≡ fraction y 8
    → eighth right below (nearest_sample a (column +ℤ pos i) (row +ℤ pos j)) (nearest_sample a (column +ℤ pos (i + 1)) (row +ℤ pos j)) (nearest_sample a (column +ℤ pos i) (row +ℤ pos (j + 1))) (nearest_sample a (column +ℤ pos (i + 1)) (row +ℤ pos (j + 1))) ≡ chroma_at a (x +ℤ pos (8 * i)) (y +ℤ pos (8 * j))
chroma_from a x y column row right below i j is_column is_row is_right is_below =
    ap₂ (λ u v. four a u v right below i j) is_column is_row ∙ (ap₂ (λ u v. four a (whole x 8) (whole y 8) u v i j) is_right is_below ∙ sym (chroma_moved a x y i j))
