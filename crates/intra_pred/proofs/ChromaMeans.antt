-- The means of the four blocks of chroma, laid out by rows.
use Rattle.std.proofs.Common.{◌≡◌, ℕ, zero, suc, ◌/◌, ◌<◌, ◌≤◌, List, [], ◌∷◌, Option, get_or, sym, ap, ◌∙◌, inl, inr, arith}
use Rattle.std.proofs.lemmas.Bool.{cases_lt}
use Rattle.intra_pred.specs.Chroma.{block_mean}
use Rattle.intra_pred.specs.Sides.{sample_in}

by_eight : (P : ℕ → Type 0) → P 0 → P 1 → P 2 → P 3 → P 4 → P 5 → P 6 → P 7 → (k : ℕ) → k < 8 → P k
by_eight P p0 p1 p2 p3 p4 p5 p6 p7 zero h = p0
by_eight P p0 p1 p2 p3 p4 p5 p6 p7 (suc zero) h = p1
by_eight P p0 p1 p2 p3 p4 p5 p6 p7 (suc (suc zero)) h = p2
by_eight P p0 p1 p2 p3 p4 p5 p6 p7 (suc (suc (suc zero))) h = p3
by_eight P p0 p1 p2 p3 p4 p5 p6 p7 (suc (suc (suc (suc zero)))) h = p4
by_eight P p0 p1 p2 p3 p4 p5 p6 p7 (suc (suc (suc (suc (suc zero))))) h = p5
by_eight P p0 p1 p2 p3 p4 p5 p6 p7 (suc (suc (suc (suc (suc (suc zero)))))) h = p6
by_eight P p0 p1 p2 p3 p4 p5 p6 p7 (suc (suc (suc (suc (suc (suc (suc zero))))))) h = p7
by_eight P p0 p1 p2 p3 p4 p5 p6 p7 (suc (suc (suc (suc (suc (suc (suc (suc k)))))))) h = absurd (omega arith)

-- a row over two blocks
abbrev pub row_of : ℕ → ℕ → List ℕ
row_of a b = a ∷ a ∷ a ∷ a ∷ b ∷ b ∷ b ∷ b ∷ []

row_is : (left top : Option (List ℕ)) (j a b : ℕ) → a ≡ block_mean left top 0 j → b ≡ block_mean left top 1 j → (x : ℕ) → x < 8 → get_or (row_of a b) x 0 ≡ block_mean left top (x / 4) j
row_is left top j a b ea eb x h = by_eight (λ x. get_or (row_of a b) x 0 ≡ block_mean left top (x / 4) j) ea ea ea ea eb eb eb eb x h

pub dc_is : (left top : Option (List ℕ)) (m first second : List ℕ)
    → m ≡ block_mean left top 0 0 ∷ block_mean left top 1 0 ∷ block_mean left top 0 1 ∷ block_mean left top 1 1 ∷ []
    → ((x y : ℕ) → x < 8 → 0 ≤ y → y < 4 → sample_in 8 first x y ≡ get_or (row_of (get_or m 0 0) (get_or m 1 0)) x 0)
    → ((x y : ℕ) → x < 8 → 4 ≤ y → y < 8 → sample_in 8 second x y ≡ get_or (row_of (get_or m 2 0) (get_or m 3 0)) x 0)
    → ((x y : ℕ) → x < 8 → y < 4 → sample_in 8 second x y ≡ sample_in 8 first x y)
    → (x y : ℕ) → x < 8 → y < 8 → sample_in 8 second x y ≡ block_mean left top (x / 4) (y / 4)
dc_is left top m first second em upper lower kept x y hx hy = elim (cases_lt y 4) [
  | inl above ↦
      let j : y / 4 ≡ 0 = omega arith in
      kept x y hx above ∙ (upper x y hx (omega arith) above ∙ (row_is left top 0 _ _ (ap (λ (l : List ℕ). get_or l 0 0) em) (ap (λ (l : List ℕ). get_or l 1 0) em) x hx ∙ ap (λ (i : ℕ). block_mean left top (x / 4) i) (sym j)))
  | inr below ↦
      let j : y / 4 ≡ 1 = omega arith in
      lower x y hx below hy ∙ (row_is left top 1 _ _ (ap (λ (l : List ℕ). get_or l 2 0) em) (ap (λ (l : List ℕ). get_or l 3 0) em) x hx ∙ ap (λ (i : ℕ). block_mean left top (x / 4) i) (sym j))
]
