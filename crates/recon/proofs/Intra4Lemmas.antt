-- One more block of an Intra4x4 macroblock.
use Rattle.std.proofs.Common.{◌≡◌, ℕ, ◌+◌, ◌*◌, ◌/◌, ◌%◌, ◌<◌, ◌≤◌, cond, inl, inr, List, None, get_or, refl, sym, ap, ◌∙◌, arith}
use Rattle.std.proofs.lemmas.Bool.{cases_eq}
use Rattle.std.proofs.lemmas.Bool.Decides.{nat_tests}
use Rattle.cb_types.specs.Blocks.{block_at, block_column, block_row}
use Rattle.cb_types.specs.declared.macroblock.Levels.{Levels}
use Rattle.int_transform.specs.Residual.{residual_at}
use Rattle.intra_pred.specs.Luma4.{sample4}
use Rattle.intra_pred.specs.Sides.{sample_in}
use Rattle.vd_plane.specs.Tiles.{sample_in_rows}
use Rattle.recon.specs.Intra.{intra4_sample}
use Rattle.recon.specs.Residuals.{block_residual, constructed, levels_at}
use Rattle.recon.specs.Sides.{sides_of}
use Rattle.recon.specs.declared.edges.Edges.{Edges}
use Rattle.recon.specs.declared.sides.Sides.{Sides}
use Rattle.recon.proofs.BlockPlaces.{in_block}
use Rattle.recon.proofs.SidesLemmas.{SameBefore, sides_same}

-- the sample that the sides of a block predict
abbrev pub from_sides : ℕ → Sides → ℕ → ℕ → ℕ
from_sides mode s x y = sample4 mode s.left s.top s.right s.corner x y

pub intra4_is : (edges : Edges) (modes l : List ℕ) (x y block : ℕ) → block_at (x / 4) (y / 4) ≡ block → intra4_sample edges modes l x y ≡ from_sides (get_or modes block 0) (sides_of edges l block) (x % 4) (y % 4)
unfolding intra4_sample
intra4_is edges modes l x y block e = ap (λ b. from_sides (get_or modes b 0) (sides_of edges l b) (x % 4) (y % 4)) e

in_it : (column row x y u v : ℕ) → x / 4 ≡ column → y / 4 ≡ row → cond (in_block column row x y) u v ≡ u
in_it column row x y u v e f = grind (arith, nat_tests)

not_in_it : (column row x y u v : ℕ) → (x / 4 ≡ column → y / 4 ≡ row → ⊥) → cond (in_block column row x y) u v ≡ v
not_in_it column row x y u v apart = grind (arith, nat_tests)

-- the samples l before, p with the prediction laid down, and n with the residual added
pub record IsStep (k column row qp : ℕ) (blocks : List Levels) (prediction l p n : List ℕ) : Type 0 where
  pub inside : k < 16
  pub of_column : column ≡ block_column k
  pub of_row : row ≡ block_row k
  pub put : (x y : ℕ) → x < 16 → sample_in_rows 16 p x y ≡ cond (in_block column row x y) (get_or prediction (4 * (y % 4) + x % 4) 0) (sample_in_rows 16 l x y)
  pub add : (x y : ℕ) → x < 16 → sample_in_rows 16 n x y ≡ cond (in_block column row x y) (constructed (sample_in_rows 16 p x y) (residual_at (levels_at blocks k) None qp (y % 4) (x % 4))) (sample_in_rows 16 p x y)

other_block : (k column row qp : ℕ) (blocks : List Levels) (prediction l p n : List ℕ) → IsStep k column row qp blocks prediction l p n
    → (x y : ℕ) → x < 16 → y < 16 → (block_at (x / 4) (y / 4) ≡ k → ⊥) → sample_in_rows 16 n x y ≡ sample_in_rows 16 l x y
other_block k column row qp blocks prediction l p n step x y across down apart =
    let ne : x / 4 ≡ column → y / 4 ≡ row → ⊥ = λ e f. apart (omega (arith, step.of_column, step.of_row, step.inside)) in
    step.add x y across ∙ (not_in_it column row x y _ _ ne ∙ (step.put x y across ∙ not_in_it column row x y _ _ ne))

same_block : (k column row qp : ℕ) (blocks : List Levels) (prediction l p n : List ℕ) → IsStep k column row qp blocks prediction l p n
    → (x y : ℕ) → x < 16 → y < 16 → block_at (x / 4) (y / 4) ≡ k → sample_in_rows 16 n x y ≡ constructed (get_or prediction (4 * (y % 4) + x % 4) 0) (block_residual blocks qp x y)
same_block k column row qp blocks prediction l p n step x y across down same =
    let e : x / 4 ≡ column = omega (arith, step.of_column, step.inside) in
    let f : y / 4 ≡ row = omega (arith, step.of_row, step.inside) in
    step.add x y across
    ∙ (in_it column row x y _ _ e f
    ∙ (ap (λ z. constructed z (residual_at (levels_at blocks k) None qp (y % 4) (x % 4))) (step.put x y across ∙ in_it column row x y _ _ e f)
    ∙ ap (λ b. constructed (get_or prediction (4 * (y % 4) + x % 4) 0) (residual_at (levels_at blocks b) None qp (y % 4) (x % 4))) (sym same)))

agree : (k column row qp : ℕ) (blocks : List Levels) (prediction l p n : List ℕ) → IsStep k column row qp blocks prediction l p n → (b : ℕ) → b ≤ k → SameBefore b n l
agree k column row qp blocks prediction l p n step b le =
    record { same = λ x y across down lt. other_block k column row qp blocks prediction l p n step x y across down (λ e. omega arith) }

-- the equations of the first blocks
abbrev pub AreSamples : Edges → List ℕ → List Levels → ℕ → List ℕ → ℕ → Type 0
AreSamples edges modes blocks qp l end = (x y : ℕ) → x < 16 → y < 16 → block_at (x / 4) (y / 4) < end → sample_in_rows 16 l x y ≡ constructed (intra4_sample edges modes l x y) (block_residual blocks qp x y)

pub intra4_more : (edges : Edges) (modes : List ℕ) (k column row qp : ℕ) (blocks : List Levels) (prediction l p n : List ℕ) (sides : Sides) → IsStep k column row qp blocks prediction l p n
    → sides ≡ sides_of edges l k
    → ((x y : ℕ) → x < 4 → y < 4 → sample_in 4 prediction x y ≡ from_sides (get_or modes k 0) sides x y)
    → AreSamples edges modes blocks qp l k → AreSamples edges modes blocks qp n (k + 1)
intra4_more edges modes k column row qp blocks prediction l p n sides step is predicted before x y across down lt =
    let b : ℕ = block_at (x / 4) (y / 4) in
    let le : b ≤ k = omega arith in
    let same : sides_of edges n b ≡ sides_of edges l b = sides_same edges n l b (omega (arith, step.inside)) (agree k column row qp blocks prediction l p n step b le) in
    let here : intra4_sample edges modes l x y ≡ intra4_sample edges modes n x y =
    intra4_is edges modes l x y b refl ∙ (ap (λ s. from_sides (get_or modes b 0) s (x % 4) (y % 4)) (sym same) ∙ sym (intra4_is edges modes n x y b refl)) in
    elim (cases_eq b k) [
      | inl e ↦
          same_block k column row qp blocks prediction l p n step x y across down e
          ∙ (ap (λ z. constructed z (block_residual blocks qp x y))
          (predicted (x % 4) (y % 4) (omega arith) (omega arith) ∙ (ap (λ s. from_sides (get_or modes k 0) s (x % 4) (y % 4)) is ∙ sym (intra4_is edges modes l x y k e)))
          ∙ ap (λ z. constructed z (block_residual blocks qp x y)) here)
      | inr ne ↦
          other_block k column row qp blocks prediction l p n step x y across down ne
          ∙ (before x y across down (omega arith) ∙ ap (λ z. constructed z (block_residual blocks qp x y)) here)
    ]
