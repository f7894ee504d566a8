-- Macroblocks as a whole: no macroblock's bits begin another's.
use Rattle.std.proofs.Common.{◌≡◌, ℕ, ◌%◌, ◌≤◌, Bool, false, List, ◌++◌, length, refl, sym, ap, ◌∙◌, arith, append_assoc, ℤ}
use Rattle.std.proofs.lemmas.List.{length-append}
use Rattle.bit_io.specs.Reads.{IsPrefixFree}
use Rattle.cb_types.specs.declared.macroblock.Macroblock.{Macroblock}
use Rattle.cb_types.specs.declared.macroblock.MbKind.{MbKind}
use Rattle.cb_types.specs.declared.macroblock.MbKind.TheVariants.{Skip, Pcm, Intra4, Intra16, Whole, Wide, Tall, Four, FourFirst}
use Rattle.mb_syntax.proofs.BlockLemmas.{residual_free}
use Rattle.mb_syntax.proofs.MbLemmas.{blocks_size, qp_delta_free}
use Rattle.mb_syntax.proofs.Pairs.{AreBoth, both_bits, both_free}
use Rattle.mb_syntax.proofs.SameBlocks.{coded_sizes, macroblock_same}
use Rattle.mb_syntax.proofs.WholeKinds.{kind_at_same_place, kind_free, some_bits}
use Rattle.mb_syntax.specs.Blocks.{AreBlocks, residual_bits}
use Rattle.mb_syntax.specs.Counts.{blocks_of}
use Rattle.mb_syntax.specs.Kinds.{is_skip}
use Rattle.mb_syntax.specs.MacroblockLayer.{IsCoded, IsQpDelta, mb_bits, qp_delta_bits}
use Rattle.mb_syntax.specs.Prediction.{IsKind, kind_bits}
use Rattle.mb_syntax.specs.declared.slice.Slice.{Slice}

coded_kind : (slice : Slice) (kind : MbKind) → IsKind slice kind → is_skip kind ≡ false
coded_kind slice Skip h = absurd h
coded_kind slice (Pcm samples) h = refl
coded_kind slice (Intra4 modes chroma pattern) h = refl
coded_kind slice (Intra16 mode chroma pattern) h = refl
coded_kind slice (Whole part pattern) h = refl
coded_kind slice (Wide parts pattern) h = refl
coded_kind slice (Tall parts pattern) h = refl
coded_kind slice (Four subs pattern) h = refl
coded_kind slice (FourFirst subs pattern) h = refl

pub not_skip : (slice : Slice) (before : List Macroblock) (mb : Macroblock) → IsCoded slice before mb → is_skip mb.kind ≡ false
not_skip slice before mb is = coded_kind slice mb.kind is.kind

module _ (slice : Slice) (place : ℕ) (before : List Macroblock) where
  abbrev AreBlocksOf : MbKind → List (List ℤ) → Type 0
  AreBlocksOf kind blocks = (length blocks ≡ 27) × AreBlocks slice before kind blocks

  abbrev IsTail : MbKind → ℤ × List (List ℤ) → Type 0
  IsTail kind = AreBoth (IsQpDelta kind) (qp_delta_bits kind) (λ (d : ℤ). AreBlocksOf kind) (λ (d : ℤ). residual_bits slice before kind)

  abbrev tail_bits : MbKind → ℤ × List (List ℤ) → List Bool
  tail_bits kind = both_bits (IsQpDelta kind) (qp_delta_bits kind) (λ (d : ℤ). AreBlocksOf kind) (λ (d : ℤ). residual_bits slice before kind)

  tail_free : (kind : MbKind) → IsPrefixFree (IsTail kind) (tail_bits kind)
  tail_free kind =
      both_free (IsQpDelta kind) (qp_delta_bits kind) (λ (d : ℤ). AreBlocksOf kind) (λ (d : ℤ). residual_bits slice before kind) (qp_delta_free kind) (λ d h. residual_free slice before kind)

  abbrev parts : Macroblock → MbKind × (ℤ × List (List ℤ))
  parts mb = (mb.kind, (mb.qp_delta, blocks_of mb))

  in_parts : (mb : Macroblock) → mb_bits slice place before mb ≡ kind_bits slice place mb.kind ++ tail_bits mb.kind (mb.qp_delta, blocks_of mb)
  unfolding mb_bits
  in_parts mb = append_assoc (kind_bits slice place mb.kind) (qp_delta_bits mb.kind mb.qp_delta) (residual_bits slice before mb.kind (blocks_of mb))

  pub mb_free : slice.active ≤ 16 → IsPrefixFree (IsCoded slice before) (mb_bits slice place before)
  mb_free few v w after_v after_w h k e =
      let size_v = blocks_size v (coded_sizes slice before v h) in
      let size_w = blocks_size w (coded_sizes slice before w k) in
      let same = both_free (IsKind slice) (kind_bits slice place) IsTail tail_bits (kind_free slice place few) (λ kind h. tail_free kind) (parts v) (parts w) after_v after_w
      (h.kind, (h.qp_delta, (size_v, h.blocks))) (k.kind, (k.qp_delta, (size_w, k.blocks)))
      (ap (λ (x : List Bool). x ++ after_v) (sym (in_parts v)) ∙ e ∙ ap (λ (x : List Bool). x ++ after_w) (in_parts w)) in (
        macroblock_same v w (coded_sizes slice before v h) (coded_sizes slice before w k) (ap (λ (p : MbKind × (ℤ × List (List ℤ))). p.0) same.0)
            (ap (λ (p : MbKind × (ℤ × List (List ℤ))). p.1.0) same.0) (ap (λ (p : MbKind × (ℤ × List (List ℤ))). p.1.1) same.0),
        same.1,
      )

  pub mb_some : (mb : Macroblock) → IsCoded slice before mb → 1 ≤ length (mb_bits slice place before mb)
  mb_some mb is =
      let kind = kind_bits slice place mb.kind in
      let tail = tail_bits mb.kind (mb.qp_delta, blocks_of mb) in
      omega (arith, ap length (in_parts mb), length-append kind tail, some_bits slice place mb.kind is.kind)

pub mb_at_same_place : (slice : Slice) (p q : ℕ) (before : List Macroblock) (mb : Macroblock) → p % 8 ≡ q % 8 → mb_bits slice p before mb ≡ mb_bits slice q before mb
unfolding mb_bits
mb_at_same_place slice p q before mb e =
    ap (λ (x : List Bool). (x ++ qp_delta_bits mb.kind mb.qp_delta) ++ residual_bits slice before mb.kind (blocks_of mb)) (kind_at_same_place slice p q mb.kind e)
