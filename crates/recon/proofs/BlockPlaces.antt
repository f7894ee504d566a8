-- Where the samples of 4x4 blocks stand in rows.
use Rattle.std.proofs.Common.{◌≡◌, ℕ, ◌+◌, ◌*◌, ◌/◌, ◌%◌, ◌<◌, ◌≤◌, Bool, cond, eqb, ltb, ◌&&◌, inl, inr, List, length, get_or, sym, ap, ◌∙◌, arith}
use borrow.Rule.Slice.PartMut.{put_mid}
use Rattle.std.specs.Prelude.{ℤ}
use Rattle.std.proofs.lemmas.Nat.{mul-le}
use Rattle.std.proofs.lemmas.Bool.{cases_lt, cases_eq}
use Rattle.std.proofs.lemmas.Bool.Decides.{nat_tests}
use Rattle.int_transform.specs.Scan.{value_at}
use Rattle.vd_plane.specs.SampleArray.{array_of, covers, number_in, rect_at, sample}
use Rattle.vd_plane.specs.Tiles.{sample_in_rows}
use Rattle.vd_plane.proofs.Samples.{sample_at}
use Rattle.recon.specs.Residuals.{constructed}
use Rattle.recon.proofs.Parts.{after_part, before_part, in_part}

-- both ways of naming a sample's place
pub sample_is_in_rows : (w h x y : ℕ) (s : List ℕ) → x < w → sample (array_of w h s) x y ≡ sample_in_rows w s x y
sample_is_in_rows w h x y s lt = sample_at (array_of w h s) x y lt ∙ ap (λ n. get_or s n 0) (omega arith)

-- whether a sample is in the block in a column and a row of blocks, and there in one of so many rows
abbrev pub in_block : ℕ → ℕ → ℕ → ℕ → Bool
in_block column row x y = eqb (x / 4) column && eqb (y / 4) row

abbrev pub in_rows_of : ℕ → ℕ → ℕ → ℕ → ℕ → Bool
in_rows_of column row rows x y = in_block column row x y && ltb (y % 4) rows

pub in_no_row : (column row x y u v : ℕ) → cond (in_rows_of column row 0 x y) u v ≡ v
in_no_row column row x y u v = grind (arith, nat_tests)

pub in_all_rows : (column row n x y u v : ℕ) → n ≡ 4 → cond (in_rows_of column row n x y) u v ≡ cond (in_block column row x y) u v
in_all_rows column row n x y u v e = grind (arith, nat_tests)

same_test : (column row n x y u v : ℕ) → (x / 4 ≡ column → y ≡ 4 * row + n → ⊥) → cond (in_rows_of column row n x y) u v ≡ cond (in_rows_of column row (n + 1) x y) u v
same_test column row n x y u v apart = grind (arith, nat_tests)

before_here : (column row n x y u v : ℕ) → y ≡ 4 * row + n → n < 4 → cond (in_rows_of column row n x y) u v ≡ v
before_here column row n x y u v e lt = grind (arith, nat_tests)

after_here : (column row n x y u v : ℕ) → x / 4 ≡ column → y ≡ 4 * row + n → n < 4 → u ≡ cond (in_rows_of column row (n + 1) x y) u v
after_here column row n x y u v e f lt = grind (arith, nat_tests)

-- one more row of a block had its values added
pub row_added : (w c r n k : ℕ) (s start t : List ℕ) (v : List ℤ) (x y : ℕ) → 4 * c + 4 ≤ w → n < 4 → (4 * r + n) * w + 4 * c + 4 ≤ length s → length t ≡ 4 → k ≡ 4 → x < w
    → ((j : ℕ) → j < 4 → get_or t j 0 ≡ constructed (get_or s ((4 * r + n) * w + 4 * c + j) 0) (value_at v (4 * n + j)))
    → sample_in_rows w s x y ≡ cond (in_rows_of c r n x y) (constructed (sample_in_rows w start x y) (value_at v (4 * (y % 4) + x % 4))) (sample_in_rows w start x y)
    → sample_in_rows w (put_mid ((4 * r + n) * w + 4 * c) k s t) x y ≡ cond (in_rows_of c r (n + 1) x y) (constructed (sample_in_rows w start x y) (value_at v (4 * (y % 4) + x % 4))) (sample_in_rows w start x y)
row_added w c r n k s start t v x y across lt within count four inside row before =
    let a : ℕ = (4 * r + n) * w + 4 * c in
    let old : ℕ = sample_in_rows w start x y in
    let new : ℕ = constructed old (value_at v (4 * (y % 4) + x % 4)) in
    elim (cases_eq y (4 * r + n)) [
      | inl same ↦
          let line : w * y ≡ (4 * r + n) * w = omega (arith, ap (λ m. m * w) same) in
          elim (cases_lt x (4 * c)) [
            | inl left ↦ before_part a k (w * y + x) s t (omega arith) (omega arith) ∙ (before ∙ same_test c r n x y new old (λ e f. omega arith))
            | inr right ↦ elim (cases_lt x (4 * c + 4)) [
              | inl here ↦
                  let place : w * y + x ≡ a + x % 4 = omega arith in
                  let e : 4 * n + x % 4 ≡ 4 * (y % 4) + x % 4 = omega arith in
                  let was : get_or s (a + x % 4) 0 ≡ old = ap (λ m. get_or s m 0) (sym place) ∙ (before ∙ before_here c r n x y new old same lt) in
                  ap (λ m. get_or (put_mid a k s t) m 0) place
                  ∙ (in_part a k (x % 4) s t (omega arith) (omega arith)
                  ∙ (row (x % 4) (omega arith)
                  ∙ (ap (λ z. constructed z (value_at v (4 * n + x % 4))) was
                  ∙ (ap (λ m. constructed old (value_at v m)) e
                  ∙ after_here c r n x y new old (omega arith) same lt))))
              | inr past ↦ after_part a k (w * y + x) s t (omega arith) (omega arith) (omega arith) ∙ (before ∙ same_test c r n x y new old (λ e f. omega arith))
            ]
          ]
      | inr other ↦ elim (cases_lt y (4 * r + n)) [
        | inl above ↦
            let up : (y + 1) * w ≤ (4 * r + n) * w = mul-le (y + 1) w (4 * r + n) w (omega arith) (omega arith) in
            before_part a k (w * y + x) s t (omega arith) (omega arith) ∙ (before ∙ same_test c r n x y new old (λ e f. omega arith))
        | inr below ↦
            let down : (4 * r + n + 1) * w ≤ y * w = mul-le (4 * r + n + 1) w y w (omega arith) (omega arith) in
            after_part a k (w * y + x) s t (omega arith) (omega arith) (omega arith) ∙ (before ∙ same_test c r n x y new old (λ e f. omega arith))
      ]
    ]

-- a block as a rectangle
covers_here : (column row x y u v w : ℕ) → (x / 4 ≡ column → y / 4 ≡ row → u ≡ w) → cond (covers (rect_at (4 * column) (4 * row) 4 4) x y) u v ≡ cond (in_block column row x y) w v
covers_here column row x y u v w here = grind (arith, nat_tests)

pub covers_block : (column row x y : ℕ) (block : List ℕ) (old : ℕ) →
    cond (covers (rect_at (4 * column) (4 * row) 4 4) x y) (get_or block (number_in (rect_at (4 * column) (4 * row) 4 4) x y) 0) old
    ≡ cond (in_block column row x y) (get_or block (4 * (y % 4) + x % 4) 0) old
covers_block column row x y block old =
    covers_here column row x y _ old _ (λ e f. ap (λ n. get_or block n 0) (omega arith))
