-- The rows of a block: what the code scales is what the definition says.
use Rattle.std.proofs.Common.{◌≡◌, ℕ, ◌*◌, ◌^◌, ◌<◌, ◌≤◌, ℤ, pos, ◌*ℤ◌, List, [], ◌∷◌, Some, None, suc, take, drop, length, ◌+ℤ◌, lit<, lit≤, refl, sym, ap, ◌∙◌, arith, subst}
use Rattle.std.proofs.lemmas.Int.{ints}
use Rattle.std.proofs.lemmas.List.{get_or-drop, get_or-take}
use Rattle.cb_tables.specs.LevelScale.{level_scale_at}
use Rattle.int_transform.specs.Bounds.{AreWithin, IsWithin}
use Rattle.int_transform.specs.Residual.{residual_at, sample_from, scale_at, scaled_at, transformed}
use Rattle.int_transform.specs.Scan.{scan_rows, scanned, value_at}
use lib.Signed.{shr_z}
use Rattle.int_transform.proofs.Places.{by_four}
use Rattle.int_transform.proofs.Scales.{scale_limit, within_wider}
use Rattle.int_transform.proofs.Whole.{kept, kept_within, row_within, transformed_kept}

pub scale_within : (qp place : ℕ) (s : ℤ) → qp ≤ 51 → place ≤ 15 → s ≡ pos (scale_at qp place) → IsWithin (29 * 2 ^ 8) s
scale_within qp place s h k e = let small = scale_limit qp place h k in record { least = omega (arith, ints); most = omega (arith, ints) }

pub scale_kept : (qp place : ℕ) (s : ℤ) → qp ≤ 51 → place ≤ 15 → s ≡ pos (scale_at qp place) → kept s ≡ pos (scale_at qp place)
scale_kept qp place s h k e = kept_within (29 * 2 ^ 8) s (lit< tt) (scale_within qp place s h k e) ∙ e

-- what is kept of numbers within a bound stays within it, and within a wider one
pub within_kept : (m n : ℕ) (z : ℤ) → m < 2 ^ 31 → m ≤ n → IsWithin m z → IsWithin n (kept z)
within_kept m n z small h w = rw (kept_within m z small w) (within_wider m n z h w)

pub level_kept : (ac : List ℤ) (k : ℕ) → AreWithin 4096 ac → k < length ac → IsWithin 4096 (kept (value_at ac k))
level_kept ac k w h = within_kept 4096 4096 _ (lit< tt) (lit≤ tt) (w k (pos 0) h)

-- a first value of a row: a level, scaled
pub entry_is : (qp place : ℕ) (level s r : ℤ) → qp ≤ 51 → place ≤ 15 → IsWithin 4096 level → s ≡ pos (scale_at qp place) → IsWithin (2 ^ 27) r → r ≡ kept level *ℤ kept s → kept r ≡ level *ℤ pos (scale_at qp place)
entry_is qp place level s r h k w es wr er =
    let a = kept_within 4096 level (lit< tt) w in
    let b = scale_kept qp place s h k es in
    kept_within (2 ^ 27) r (lit< tt) wr ∙ (er ∙ (rw (a, b)))

-- a row, transformed
pub record IsRow (d0 d1 d2 d3 : ℤ) (f : List ℤ) : Type 0 where
  pub is : f ≡ transformed d0 d1 d2 d3
  pub within : AreWithin (2 ^ 29) f

pub row_is : (d0 d1 d2 d3 : ℤ) (f : List ℤ) → IsWithin (2 ^ 27) d0 → IsWithin (2 ^ 27) d1 → IsWithin (2 ^ 27) d2 → IsWithin (2 ^ 27) d3 → f ≡ transformed (kept d0) (kept d1) (kept d2) (kept d3) → IsRow d0 d1 d2 d3 f
row_is d0 d1 d2 d3 f w0 w1 w2 w3 e =
    let wider : (z : ℤ) → IsWithin (2 ^ 27) z → IsWithin (2 ^ 29) z = λ z w. within_wider (2 ^ 27) (2 ^ 29) z (lit≤ tt) w in
    let is = e ∙ transformed_kept d0 d1 d2 d3 (wider d0 w0) (wider d1 w1) (wider d2 w2) (wider d3 w3) in
    record { is = is; within = subst (AreWithin (2 ^ 29)) (sym is) (row_within d0 d1 d2 d3 w0 w1 w2 w3) }

-- the rows as the definition has them
abbrev pub row_at : List ℤ → ℤ → ℕ → ℕ → List ℤ
row_at ac dc qp i = transformed (scaled_at ac (Some dc) qp i 0) (scaled_at ac (Some dc) qp i 1) (scaled_at ac (Some dc) qp i 2) (scaled_at ac (Some dc) qp i 3)

pub first_row : (ac : List ℤ) (dc : ℤ) (qp : ℕ) (f : List ℤ) (d0 odd even : ℤ) → d0 ≡ dc → odd ≡ pos (scale_at qp 1) → even ≡ pos (scale_at qp 0)
    → f ≡ transformed d0 (value_at ac 0 *ℤ odd) (value_at ac 4 *ℤ even) (value_at ac 5 *ℤ odd) → f ≡ row_at ac dc qp 0
unfolding scaled_at scanned scan_rows scale_at level_scale_at
first_row ac dc qp f d0 odd even ed eo ee ef = ef ∙ (rw (ed, eo, ee))

pub second_row : (ac : List ℤ) (dc : ℤ) (qp : ℕ) (f : List ℤ) (d0 odd even : ℤ) → d0 ≡ value_at ac 1 *ℤ pos (scale_at qp 1) → odd ≡ pos (scale_at qp 5) → even ≡ pos (scale_at qp 1)
    → f ≡ transformed d0 (value_at ac 3 *ℤ odd) (value_at ac 6 *ℤ even) (value_at ac 11 *ℤ odd) → f ≡ row_at ac dc qp 1
unfolding scaled_at scanned scan_rows scale_at level_scale_at
second_row ac dc qp f d0 odd even ed eo ee ef = ef ∙ (rw (ed, eo, ee))

pub third_row : (ac : List ℤ) (dc : ℤ) (qp : ℕ) (f : List ℤ) (d0 odd even : ℤ) → d0 ≡ value_at ac 2 *ℤ pos (scale_at qp 0) → odd ≡ pos (scale_at qp 1) → even ≡ pos (scale_at qp 0)
    → f ≡ transformed d0 (value_at ac 7 *ℤ odd) (value_at ac 10 *ℤ even) (value_at ac 12 *ℤ odd) → f ≡ row_at ac dc qp 2
unfolding scaled_at scanned scan_rows scale_at level_scale_at
third_row ac dc qp f d0 odd even ed eo ee ef = ef ∙ (rw (ed, eo, ee))

pub fourth_row : (ac : List ℤ) (dc : ℤ) (qp : ℕ) (f : List ℤ) (d0 odd even : ℤ) → d0 ≡ value_at ac 8 *ℤ pos (scale_at qp 1) → odd ≡ pos (scale_at qp 5) → even ≡ pos (scale_at qp 1)
    → f ≡ transformed d0 (value_at ac 9 *ℤ odd) (value_at ac 13 *ℤ even) (value_at ac 14 *ℤ odd) → f ≡ row_at ac dc qp 3
unfolding scaled_at scanned scan_rows scale_at level_scale_at
fourth_row ac dc qp f d0 odd even ed eo ee ef = ef ∙ (rw (ed, eo, ee))

pub block_is : (ac : List ℤ) (dc : ℤ) (qp : ℕ) (f g h i : List ℤ) → f ≡ row_at ac dc qp 0 → g ≡ row_at ac dc qp 1 → h ≡ row_at ac dc qp 2 → i ≡ row_at ac dc qp 3
    → (row column : ℕ) → sample_from f g h i row column ≡ residual_at ac (Some dc) qp row column
unfolding residual_at
block_is ac dc qp f g h i ef eg eh ei row column = rw (ef, eg, eh, ei)

-- ---- a block whose levels are 0

times_zero : (z : ℤ) (s : ℕ) → z ≡ pos 0 → z *ℤ pos s ≡ pos 0
times_zero z s e = rw e (omega (arith, ints))

-- transforms of a value before zeros
alone : (d : ℤ) → transformed d (pos 0) (pos 0) (pos 0) ≡ d ∷ d ∷ d ∷ d ∷ []
unfolding transformed
alone d =
    let e : (d +ℤ pos 0) +ℤ pos 0 ≡ d = omega (arith, ints) in
    rw e

zeros : transformed (pos 0) (pos 0) (pos 0) (pos 0) ≡ pos 0 ∷ pos 0 ∷ pos 0 ∷ pos 0 ∷ []
unfolding transformed
zeros = refl

flat_sample : (dc : ℤ) (row column : ℕ) → row < 4 → column < 4 → sample_from (dc ∷ dc ∷ dc ∷ dc ∷ []) (pos 0 ∷ pos 0 ∷ pos 0 ∷ pos 0 ∷ []) (pos 0 ∷ pos 0 ∷ pos 0 ∷ pos 0 ∷ []) (pos 0 ∷ pos 0 ∷ pos 0 ∷ pos 0 ∷ []) row column ≡ shr_z (dc +ℤ pos 32) 64
unfolding sample_from
flat_sample dc row column hr hc =
    by_four (λ column. sample_from (dc ∷ dc ∷ dc ∷ dc ∷ []) (pos 0 ∷ pos 0 ∷ pos 0 ∷ pos 0 ∷ []) (pos 0 ∷ pos 0 ∷ pos 0 ∷ pos 0 ∷ []) (pos 0 ∷ pos 0 ∷ pos 0 ∷ pos 0 ∷ []) row column ≡ shr_z (dc +ℤ pos 32) 64)
    (at_row row hr) (at_row row hr) (at_row row hr) (at_row row hr) column hc
  where
    at_row : (row : ℕ) → row < 4 → shr_z (value_at (transformed dc (pos 0) (pos 0) (pos 0)) row +ℤ pos 32) 64 ≡ shr_z (dc +ℤ pos 32) 64
    at_row row hr =
        rw (alone dc) (by_four (λ row. shr_z (value_at (dc ∷ dc ∷ dc ∷ dc ∷ []) row +ℤ pos 32) 64 ≡ shr_z (dc +ℤ pos 32) 64) refl refl refl refl row hr)

pub flat_is : (ac : List ℤ) (dc : ℤ) (qp : ℕ) → ((k : ℕ) → k < 15 → value_at ac k ≡ pos 0) → (row column : ℕ) → row < 4 → column < 4 → residual_at ac (Some dc) qp row column ≡ shr_z (dc +ℤ pos 32) 64
unfolding residual_at scaled_at scanned scan_rows
flat_is ac dc qp zero_at row column hr hc =
    let t : (k : ℕ) → k < 15 → (s : ℕ) → value_at ac k *ℤ pos s ≡ pos 0 = λ k h s. times_zero _ s (zero_at k h) in
    let f : row_at ac dc qp 0 ≡ dc ∷ dc ∷ dc ∷ dc ∷ [] = rw (t 0 (lit< tt) (scale_at qp 1), t 4 (lit< tt) (scale_at qp 2), t 5 (lit< tt) (scale_at qp 3)) (alone dc) in
    let g : row_at ac dc qp 1 ≡ pos 0 ∷ pos 0 ∷ pos 0 ∷ pos 0 ∷ [] = rw (t 1 (lit< tt) (scale_at qp 4), t 3 (lit< tt) (scale_at qp 5), t 6 (lit< tt) (scale_at qp 6), t 11 (lit< tt) (scale_at qp 7)) zeros in
    let h : row_at ac dc qp 2 ≡ pos 0 ∷ pos 0 ∷ pos 0 ∷ pos 0 ∷ [] = rw (t 2 (lit< tt) (scale_at qp 8), t 7 (lit< tt) (scale_at qp 9), t 10 (lit< tt) (scale_at qp 10), t 12 (lit< tt) (scale_at qp 11)) zeros in
    let i : row_at ac dc qp 3 ≡ pos 0 ∷ pos 0 ∷ pos 0 ∷ pos 0 ∷ [] = rw (t 8 (lit< tt) (scale_at qp 12), t 9 (lit< tt) (scale_at qp 13), t 13 (lit< tt) (scale_at qp 14), t 14 (lit< tt) (scale_at qp 15)) zeros in
    sym (block_is ac dc qp _ _ _ _ (sym f) (sym g) (sym h) (sym i) row column) ∙ flat_sample dc row column hr hc

-- ---- a first level in place of a given DC value

abbrev plain_row : List ℤ → ℕ → ℕ → List ℤ
plain_row levels qp i = transformed (scaled_at levels None qp i 0) (scaled_at levels None qp i 1) (scaled_at levels None qp i 2) (scaled_at levels None qp i 3)

pub first_given : (levels ac : List ℤ) (x : ℤ) (qp : ℕ) → x ≡ value_at levels 0 *ℤ pos (scale_at qp 0) → ((k : ℕ) → k < 15 → value_at ac k ≡ value_at levels (suc k))
    → (row column : ℕ) → residual_at ac (Some x) qp row column ≡ residual_at levels None qp row column
unfolding residual_at scaled_at scanned scan_rows
first_given levels ac x qp e same row column =
    let f : row_at ac x qp 0 ≡ plain_row levels qp 0 = rw (e, same 0 (lit< tt), same 4 (lit< tt), same 5 (lit< tt)) in
    let g : row_at ac x qp 1 ≡ plain_row levels qp 1 = rw (same 1 (lit< tt), same 3 (lit< tt), same 6 (lit< tt), same 11 (lit< tt)) in
    let h : row_at ac x qp 2 ≡ plain_row levels qp 2 = rw (same 2 (lit< tt), same 7 (lit< tt), same 10 (lit< tt), same 12 (lit< tt)) in
    let i : row_at ac x qp 3 ≡ plain_row levels qp 3 = rw (same 8 (lit< tt), same 9 (lit< tt), same 13 (lit< tt), same 14 (lit< tt)) in
    rw (f, g, h, i)

pub behind_first : (levels : List ℤ) (k : ℕ) → k < 15 → value_at (take 15 (drop 1 levels)) k ≡ value_at levels (suc k)
behind_first levels k h = get_or-take 15 (drop 1 levels) k (pos 0) h ∙ (get_or-drop 1 levels k (pos 0) ∙ ap (λ (j : ℕ). value_at levels j) (omega arith))
