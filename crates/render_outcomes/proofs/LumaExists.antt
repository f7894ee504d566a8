-- A macroblock has luma samples that meet their equations: those of Intra4x4 are settled block by block.
use Rattle.std.proofs.Common.{◌≡◌, ℕ, suc, ◌/◌, ◌%◌, ◌<◌, List, [], length, replicate, get_or, refl, sym, ap, ◌∙◌, arith}
use Rattle.std.specs.Prelude.{ℤ}
use Rattle.std.proofs.lemmas.List.{length-replicate}
use Rattle.cb_types.specs.Blocks.{block_at}
use Rattle.cb_types.specs.declared.macroblock.MbKind.{MbKind}
use Rattle.cb_types.specs.declared.macroblock.MbKind.TheVariants.{Skip, Pcm, Intra4, Intra16, Whole, Wide, Tall, Four, FourFirst}
use Rattle.cb_types.specs.declared.macroblock.Vector.{Vector}
use Rattle.vd_plane.specs.Tiles.{sample_in_rows}
use Rattle.recon.specs.Intra.{intra4_sample}
use Rattle.recon.specs.Rebuilt.{luma_qp_at, luma_sample, modes_at}
use Rattle.recon.specs.Residuals.{constructed, luma_residual}
use Rattle.recon.specs.Slice.{Slice, macroblock}
use Rattle.recon.specs.declared.edges.Edges.{Edges}
use Rattle.recon.proofs.Intra4Lemmas.{from_sides, intra4_is}
use Rattle.recon.proofs.SidesLemmas.{SameBefore, sides_same}
use Rattle.render_outcomes.proofs.Settled.{iterated, kept_by_turns, settled}
use Rattle.render_outcomes.proofs.Tables.{length-table, table, table_in_rows}

module _ (edges : Edges) (modes : List ℕ) (residual : ℕ → ℕ → ℤ) where
  abbrev sample_from : List ℕ → ℕ → ℕ → ℕ
  sample_from luma x y = constructed (intra4_sample edges modes luma x y) (residual x y)

  -- each sample by its equation, from given ones
  next : List ℕ → List ℕ
  next luma = table (sample_from luma) 16 16

  next_at : (luma : List ℕ) (x y : ℕ) → x < 16 → y < 16 → sample_in_rows 16 (next luma) x y ≡ sample_from luma x y
  unfolding next
  next_at luma x y across down = table_in_rows (sample_from luma) 16 16 x y across down

  sample_same : (l m : List ℕ) (end x y : ℕ) → x < 16 → y < 16 → block_at (x / 4) (y / 4) < suc end → SameBefore end l m → sample_from l x y ≡ sample_from m x y
  sample_same l m end x y across down before same =
      let block : ℕ = block_at (x / 4) (y / 4) in
      let sides = sides_same edges l m block (omega arith) (record { same = λ a b c d lt. same.same a b c d (omega arith) }) in
      ap (λ p. constructed p (residual x y))
      (intra4_is edges modes l x y block refl ∙ (ap (λ s. from_sides (get_or modes block 0) s (x % 4) (y % 4)) sides ∙ sym (intra4_is edges modes m x y block refl)))

  more : (end : ℕ) (l m : List ℕ) → SameBefore end l m → SameBefore (suc end) (next l) (next m)
  more end l m same = record {
    same = λ x y across down before.
        next_at l x y across down ∙ (sample_same l m end x y across down before same ∙ sym (next_at m x y across down));
  }

  intra4_luma : List ℕ
  intra4_luma = iterated next (replicate 256 0) 16

  length-intra4_luma : length intra4_luma ≡ 256
  unfolding intra4_luma next
  length-intra4_luma = kept_by_turns next (replicate 256 0) (λ l. length l ≡ 256) (length-replicate {A = ℕ} 256 0) (λ l. length-table (sample_from l) 16 16) 16

  intra4_solves : (x y : ℕ) → x < 16 → y < 16 → sample_in_rows 16 intra4_luma x y ≡ sample_from intra4_luma x y
  unfolding intra4_luma
  intra4_solves x y across down =
      (settled next (replicate 256 0) SameBefore (λ l m. record { same = λ a b c d lt. absurd (omega arith) }) more 16).same x y across down (omega arith)
      ∙ next_at intra4_luma x y across down

-- The luma of a macroblock: 256 samples, each as its equation says.
pub record IsLumaOf (slice : Slice) (number : ℕ) (vectors : List Vector) (edges : Edges) (kind : MbKind) (luma : List ℕ) : Type 0 where
  pub count : length luma ≡ 256
  pub each : (x y : ℕ) → x < 16 → y < 16 → sample_in_rows 16 luma x y ≡ luma_sample slice number vectors edges luma kind x y

module _ (slice : Slice) (number : ℕ) (vectors : List Vector) (edges : Edges) where
  -- where a sample's equation doesn't look at the macroblock's own samples
  direct : (kind : MbKind) → ((l m : List ℕ) (x y : ℕ) → luma_sample slice number vectors edges l kind x y ≡ luma_sample slice number vectors edges m kind x y)
      → (luma : List ℕ) × IsLumaOf slice number vectors edges kind luma
  direct kind alike =
      let luma : List ℕ = table (λ x y. luma_sample slice number vectors edges [] kind x y) 16 16 in (
        luma,
        record {
          count = length-table (λ x y. luma_sample slice number vectors edges [] kind x y) 16 16;
          each = λ x y across down. table_in_rows (λ a b. luma_sample slice number vectors edges [] kind a b) 16 16 x y across down ∙ alike [] luma x y;
        },
      )

  pub luma_exists : (kind : MbKind) → (luma : List ℕ) × IsLumaOf slice number vectors edges kind luma
  luma_exists Skip = direct Skip (λ l m x y. refl)
  luma_exists (Pcm samples) = direct (Pcm samples) (λ l m x y. refl)
  luma_exists (Intra4 modes chroma pattern) =
      let residual = λ (x y : ℕ). luma_residual (macroblock slice number) (luma_qp_at slice number) x y in
      (intra4_luma edges (modes_at slice number) residual, record { count = length-intra4_luma edges (modes_at slice number) residual; each = intra4_solves edges (modes_at slice number) residual })
  luma_exists (Intra16 mode chroma pattern) = direct (Intra16 mode chroma pattern) (λ l m x y. refl)
  luma_exists (Whole part pattern) = direct (Whole part pattern) (λ l m x y. refl)
  luma_exists (Wide parts pattern) = direct (Wide parts pattern) (λ l m x y. refl)
  luma_exists (Tall parts pattern) = direct (Tall parts pattern) (λ l m x y. refl)
  luma_exists (Four subs pattern) = direct (Four subs pattern) (λ l m x y. refl)
  luma_exists (FourFirst subs pattern) = direct (FourFirst subs pattern) (λ l m x y. refl)
