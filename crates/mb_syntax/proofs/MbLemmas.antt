-- Macroblocks element by element: the kind, mb_qp_delta, the blocks.
use Rattle.std.proofs.Common.{◌≡◌, ℕ, ◌<◌, ◌≤◌, Bool, true, false, if◌then◌else◌, List, [], ◌++◌, length, map, refl, sym, ap, ap₂, ◌∙◌, subst, arith, append_assoc, ℤ, pos, negsuc, ◌≤ℤ◌}
use Rattle.std.specs.Int.Signed.{lt_z}
use Rattle.std.proofs.lemmas.Bool.{ltb-true}
use Rattle.std.proofs.lemmas.Int.{ints}
use Rattle.std.proofs.lemmas.List.{length-append, length-map}
use Rattle.bit_io.proofs.LawLemmas.{se_prefix_free}
use Rattle.bit_io.specs.Codewords.{IsSe, se}
use Rattle.bit_io.specs.Reads.{BeginsNone, IsPrefixFree}
use Rattle.cb_types.specs.declared.macroblock.ChromaLevels.{ChromaLevels}
use Rattle.cb_types.specs.declared.macroblock.Macroblock.{Macroblock}
use Rattle.cb_types.specs.declared.macroblock.MbKind.{MbKind}
use Rattle.mb_syntax.proofs.ResidualLemmas.{mb_whole, plane_of}
use Rattle.mb_syntax.proofs.SameBlocks.{coded_sizes}
use Rattle.mb_syntax.proofs.Steps.{behind}
use Rattle.mb_syntax.proofs.WholeKinds.{kind_free}
use Rattle.mb_syntax.specs.Blocks.{AreBlocks, residual_bits}
use Rattle.mb_syntax.specs.Counts.{block_of, blocks_of, chroma_blocks, dc_block}
use Rattle.mb_syntax.specs.Kinds.{has_qp_delta}
use Rattle.mb_syntax.specs.Prediction.{IsKind, kind_bits}
use Rattle.mb_syntax.specs.MacroblockLayer.{IsCoded, IsQpDelta, mb_bits, qp_delta_bits}
use Rattle.mb_syntax.specs.Stretches.{HasSizes}
use Rattle.mb_syntax.specs.declared.slice.Slice.{Slice}

pub delta_value : (v : ℤ) → negsuc 25 ≤ℤ v → v ≤ℤ pos 25 → IsSe v
delta_value v low high = omega (arith, ints)

delta_bits : Bool → ℤ → List Bool
delta_bits has v = if has then se v else []

deltas_free : (has : Bool) (v w : ℤ) (after_v after_w : List Bool) → IsSe v → IsSe w → (has ≡ false → v ≡ pos 0) → (has ≡ false → w ≡ pos 0)
    → delta_bits has v ++ after_v ≡ delta_bits has w ++ after_w → (v ≡ w) × (after_v ≡ after_w)
unfolding delta_bits
deltas_free true v w after_v after_w h k absent_v absent_w e = se_prefix_free v w after_v after_w h k e
deltas_free false v w after_v after_w h k absent_v absent_w e = (absent_v refl ∙ sym (absent_w refl), e)

pub qp_delta_free : (kind : MbKind) → IsPrefixFree (IsQpDelta kind) (qp_delta_bits kind)
unfolding delta_bits
qp_delta_free kind v w after_v after_w h k e =
    deltas_free (has_qp_delta kind) v w after_v after_w (delta_value v h.least h.greatest) (delta_value w k.least k.greatest) h.absent k.absent e

pub blocks_size : (mb : Macroblock) → HasSizes mb → length (blocks_of mb) ≡ 27
blocks_size mb is =
    let missing : ChromaLevels = record { 0 = [] } in
    let luma = map block_of mb.luma in
    let dcs = map dc_block mb.chroma_dc in
    let cb = chroma_blocks (plane_of mb 0) in
    let cr = chroma_blocks (plane_of mb 1) in
    let long_luma : length luma ≡ 16 = length-map mb.luma block_of ∙ is.luma in
    let long_dcs : length dcs ≡ 2 = length-map mb.chroma_dc dc_block ∙ is.chroma_dc in
    let long_cb : length cb ≡ 4 = length-map (plane_of mb 0).0 block_of ∙ is.chroma_blocks 0 missing (omega (arith, is.chroma)) in
    let long_cr : length cr ≡ 4 = length-map (plane_of mb 1).0 block_of ∙ is.chroma_blocks 1 missing (omega (arith, is.chroma)) in
    let halves = length-append (luma ++ dcs) (cb ++ (cr ++ [])) in
    let front = length-append luma dcs in
    let back = length-append cb (cr ++ []) in
    let last = length-append cr [] in
    ap length (mb_whole mb is.chroma) ∙ omega (arith, halves, front, back, last, long_luma, long_dcs, long_cb, long_cr)

-- a codeword stands there, but not of a value of mb_qp_delta
pub no_delta_there : (kind : MbKind) (delta : ℤ) (old new : List Bool) → has_qp_delta kind ≡ true → IsSe delta → old ≡ se delta ++ new → (IsQpDelta kind delta → ⊥)
    → BeginsNone (IsQpDelta kind) (qp_delta_bits kind) old
no_delta_there kind delta old new has is e other = λ v rest in_range f.
    let same = se_prefix_free v delta rest new (delta_value v in_range.least in_range.greatest) is
    (ap (λ (b : Bool). (if b then se v else []) ++ rest) (sym has) ∙ sym f ∙ e) in
    other (subst (λ (x : ℤ). IsQpDelta kind x) same.0 in_range)

pub too_small : (kind : MbKind) (v : ℤ) → lt_z v (negsuc 25) ≡ true → IsQpDelta kind v → ⊥
too_small kind (pos n) low is = absurd cc
too_small kind (negsuc n) low is =
    let below : 25 < n = ltb-true _ _ low in
    let least : negsuc 25 ≤ℤ negsuc n = is.least in
    omega (arith, ints, below, least)

pub too_great : (kind : MbKind) (v : ℤ) → lt_z (pos 25) v ≡ true → IsQpDelta kind v → ⊥
too_great kind (pos n) high is =
    let above : 25 < n = ltb-true _ _ high in
    let greatest : pos n ≤ℤ pos 25 = is.greatest in
    omega (arith, ints, above, greatest)
too_great kind (negsuc n) high is = absurd cc

module _ (slice : Slice) (place : ℕ) (before : List Macroblock) where
  abbrev behind_kind : Macroblock → List Bool
  behind_kind mb = qp_delta_bits mb.kind mb.qp_delta ++ residual_bits slice before mb.kind (blocks_of mb)

  parts_of : (mb : Macroblock) → mb_bits slice place before mb ≡ kind_bits slice place mb.kind ++ behind_kind mb
  unfolding mb_bits
  parts_of mb = append_assoc (kind_bits slice place mb.kind) (qp_delta_bits mb.kind mb.qp_delta) (residual_bits slice before mb.kind (blocks_of mb))

  pub no_kind : (old : List Bool) → BeginsNone (IsKind slice) (kind_bits slice place) old → BeginsNone (IsCoded slice before) (mb_bits slice place before) old
  no_kind old none = λ mb rest is e. none mb.kind (behind_kind mb ++ rest) is.kind (e ∙ ap (λ (x : List Bool). x ++ rest) (parts_of mb) ∙ append_assoc (kind_bits slice place mb.kind) (behind_kind mb) rest)

  -- the same macroblock's kind was read
  after_kind : slice.active ≤ 16 → (kind : MbKind) (old mid : List Bool) → IsKind slice kind → old ≡ kind_bits slice place kind ++ mid
      → (mb : Macroblock) (rest : List Bool) → IsCoded slice before mb → old ≡ mb_bits slice place before mb ++ rest
      → (mb.kind ≡ kind) × (mid ≡ behind_kind mb ++ rest)
  after_kind few kind old mid is e mb rest coded f =
      behind (IsKind slice) (kind_bits slice place) (kind_free slice place few) old mid kind is e mb.kind (behind_kind mb) rest coded.kind (f ∙ ap (λ (x : List Bool). x ++ rest) (parts_of mb))

  pub no_delta : slice.active ≤ 16 → (kind : MbKind) (old mid : List Bool) → IsKind slice kind → old ≡ kind_bits slice place kind ++ mid
      → BeginsNone (IsQpDelta kind) (qp_delta_bits kind) mid → BeginsNone (IsCoded slice before) (mb_bits slice place before) old
  no_delta few kind old mid is e none = λ mb rest coded f.
      let same = after_kind few kind old mid is e mb rest coded f in
      let blocks = residual_bits slice before mb.kind (blocks_of mb) in
      none mb.qp_delta (blocks ++ rest) (subst (λ (x : MbKind). IsQpDelta x mb.qp_delta) same.0 coded.qp_delta)
      (same.1 ∙ append_assoc (qp_delta_bits mb.kind mb.qp_delta) blocks rest ∙ ap (λ (x : MbKind). qp_delta_bits x mb.qp_delta ++ (blocks ++ rest)) same.0)

  pub no_blocks : slice.active ≤ 16 → (kind : MbKind) (qp_delta : ℤ) (old mid low : List Bool) → IsKind slice kind → old ≡ kind_bits slice place kind ++ mid
      → IsQpDelta kind qp_delta → mid ≡ qp_delta_bits kind qp_delta ++ low
      → BeginsNone (λ (blocks : List (List ℤ)). (length blocks ≡ 27) × AreBlocks slice before kind blocks) (residual_bits slice before kind) low
      → BeginsNone (IsCoded slice before) (mb_bits slice place before) old
  no_blocks few kind qp_delta old mid low is e is_delta f none = λ mb rest coded g.
      let first = after_kind few kind old mid is e mb rest coded g in
      let blocks = residual_bits slice before mb.kind (blocks_of mb) in
      let second = behind (IsQpDelta kind) (qp_delta_bits kind) (qp_delta_free kind) mid low qp_delta is_delta f mb.qp_delta blocks rest
      (subst (λ (x : MbKind). IsQpDelta x mb.qp_delta) first.0 coded.qp_delta)
      (first.1 ∙ ap (λ (x : MbKind). (qp_delta_bits x mb.qp_delta ++ blocks) ++ rest) first.0) in
      none (blocks_of mb) rest
      (blocks_size mb (coded_sizes slice before mb coded), subst (λ (x : MbKind). AreBlocks slice before x (blocks_of mb)) first.0 coded.blocks)
      (second.1 ∙ ap (λ (x : MbKind). residual_bits slice before x (blocks_of mb) ++ rest) first.0)

  pub mb_read : (kind : MbKind) (qp_delta : ℤ) (mb : Macroblock) (old mid low new : List Bool) → IsKind slice kind → old ≡ kind_bits slice place kind ++ mid
      → IsQpDelta kind qp_delta → mid ≡ qp_delta_bits kind qp_delta ++ low → mb.kind ≡ kind → mb.qp_delta ≡ qp_delta → HasSizes mb
      → AreBlocks slice before kind (blocks_of mb) → low ≡ residual_bits slice before kind (blocks_of mb) ++ new
      → IsCoded slice before mb × (old ≡ mb_bits slice place before mb ++ new)
  mb_read kind qp_delta mb old mid low new is e is_delta f same_kind same_delta sizes are g =
      let k : kind ≡ mb.kind = sym same_kind in
      let d : qp_delta ≡ mb.qp_delta = sym same_delta in
      let spelled_kind : old ≡ kind_bits slice place mb.kind ++ mid = e ∙ ap (λ (x : MbKind). kind_bits slice place x ++ mid) k in
      let spelled_delta : mid ≡ qp_delta_bits mb.kind mb.qp_delta ++ low =
      f ∙ ap₂ (λ (x : MbKind) (y : ℤ). qp_delta_bits x y ++ low) k d in
      let spelled_blocks : low ≡ residual_bits slice before mb.kind (blocks_of mb) ++ new = g ∙ ap (λ (x : MbKind). residual_bits slice before x (blocks_of mb) ++ new) k in
      let coded : IsCoded slice before mb = record {
        kind = subst (λ (x : MbKind). IsKind slice x) k is;
        qp_delta = subst (λ (y : ℤ). IsQpDelta mb.kind y) d (subst (λ (x : MbKind). IsQpDelta x qp_delta) k is_delta);
        luma = sizes.luma;
        chroma_dc = sizes.chroma_dc;
        chroma_dc_levels = sizes.chroma_dc_levels;
        chroma = sizes.chroma;
        chroma_blocks = sizes.chroma_blocks;
        blocks = subst (λ (x : MbKind). AreBlocks slice before x (blocks_of mb)) k are;
      } in
      let blocks = residual_bits slice before mb.kind (blocks_of mb) in
      let delta = qp_delta_bits mb.kind mb.qp_delta in
      let spelled_behind : mid ≡ (delta ++ blocks) ++ new = spelled_delta ∙ ap (λ (x : List Bool). delta ++ x) spelled_blocks ∙ sym (append_assoc delta blocks new) in
      (coded, spelled_kind ∙ ap (λ (x : List Bool). kind_bits slice place mb.kind ++ x) spelled_behind ∙ sym (append_assoc (kind_bits slice place mb.kind) (delta ++ blocks) new) ∙ ap (λ (x : List Bool). x ++ new) (sym (parts_of mb)))
