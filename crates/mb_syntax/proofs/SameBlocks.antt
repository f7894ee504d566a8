-- A macroblock's kind, its mb_qp_delta and its blocks say which macroblock it is.
use Rattle.std.proofs.Common.{◌≡◌, ℕ, suc, ◌+◌, List, [], ◌∷◌, ◌++◌, length, map, replicate, refl, sym, ap, ap₂, ◌∙◌, arith, append-nil, ℤ, pos}
use Rattle.std.specs.List.{All}
use Rattle.std.proofs.lemmas.List.{length-append, length-map}
use Rattle.cb_types.specs.declared.macroblock.ChromaLevels.{ChromaLevels}
use Rattle.cb_types.specs.declared.macroblock.DcLevels.{DcLevels}
use Rattle.cb_types.specs.declared.macroblock.Levels.{Levels}
use Rattle.cb_types.specs.declared.macroblock.Macroblock.{Macroblock}
use Rattle.cb_types.specs.declared.macroblock.MbKind.{MbKind}
use Rattle.mb_syntax.proofs.ResidualLemmas.{mb_whole, plane_of, two_of}
use Rattle.mb_syntax.specs.Around.{IsAround}
use Rattle.mb_syntax.specs.Counts.{block_of, blocks_of, chroma_blocks, dc_block}
use Rattle.mb_syntax.specs.MacroblockLayer.{IsCoded}
use Rattle.mb_syntax.specs.Stretches.{HasSizes, IsSpelled}
use Rattle.mb_syntax.specs.declared.counts.Around.{Around}
use Rattle.mb_syntax.specs.declared.slice.Slice.{Slice}

pub coded_sizes : (slice : Slice) (before : List Macroblock) (mb : Macroblock) → IsCoded slice before mb → HasSizes mb
coded_sizes slice before mb is = record {
  luma = is.luma;
  chroma_dc = is.chroma_dc;
  chroma_dc_levels = is.chroma_dc_levels;
  chroma = is.chroma;
  chroma_blocks = is.chroma_blocks;
}

pub coded_spelled : (slice : Slice) (before : List Macroblock) (around : Around) (mb : Macroblock) → IsAround slice before around → IsCoded slice before mb → IsSpelled slice before around mb
coded_spelled slice before around mb beside is = record { beside = beside; sizes = coded_sizes slice before mb is; blocks = is.blocks }

-- the same list in two parts, of which the first are equally long
parts_same : {X : Type 0} (xs ys us vs : List X) → length xs ≡ length us → xs ++ ys ≡ us ++ vs → (xs ≡ us) × (ys ≡ vs)
parts_same [] ys [] vs l e = (refl, e)
parts_same [] ys (u ∷ us) vs l e = absurd (omega (arith, l))
parts_same (x ∷ xs) ys [] vs l e = absurd (omega (arith, l))
parts_same (x ∷ xs) ys (u ∷ us) vs l e =
    let first : x ≡ u = cc in
    let rest : xs ++ ys ≡ us ++ vs = cc in
    let same = parts_same xs ys us vs (omega (arith, l)) rest in
    (ap₂ (λ (a : _) (b : List _). a ∷ b) first same.0, same.1)

same_levels : (a b : Levels) → block_of a ≡ block_of b → a ≡ b
same_levels a b e = ap (λ (x : List ℤ). let levels : Levels = record { 0 = x } in levels) e

luma_same : (xs ys : List Levels) → map block_of xs ≡ map block_of ys → xs ≡ ys
luma_same [] [] e = refl
luma_same [] (y ∷ ys) e = absurd (omega (arith, ap length e))
luma_same (x ∷ xs) [] e = absurd (omega (arith, ap length e))
luma_same (x ∷ xs) (y ∷ ys) e =
    let first : block_of x ≡ block_of y = cc in
    let rest : map block_of xs ≡ map block_of ys = cc in
    ap₂ (λ (a : Levels) (b : List Levels). a ∷ b) (same_levels x y first) (luma_same xs ys rest)

same_dc : (a b : DcLevels) → length a.0 ≡ length b.0 → dc_block a ≡ dc_block b → a ≡ b
same_dc a b l e =
    let same = parts_same a.0 (replicate 12 (pos 0)) b.0 (replicate 12 (pos 0)) l e in
    ap (λ (x : List ℤ). let levels : DcLevels = record { 0 = x } in levels) same.0

dcs_same : (xs ys : List DcLevels) → All (λ (levels : DcLevels). length levels.0 ≡ 4) xs → All (λ (levels : DcLevels). length levels.0 ≡ 4) ys → map dc_block xs ≡ map dc_block ys → xs ≡ ys
dcs_same [] [] h k e = refl
dcs_same [] (y ∷ ys) h k e = absurd (omega (arith, ap length e))
dcs_same (x ∷ xs) [] h k e = absurd (omega (arith, ap length e))
dcs_same (x ∷ xs) (y ∷ ys) h k e =
    let first : dc_block x ≡ dc_block y = cc in
    let rest : map dc_block xs ≡ map dc_block ys = cc in
    ap₂ (λ (a : DcLevels) (b : List DcLevels). a ∷ b) (same_dc x y (h 0 x (omega arith) ∙ sym (k 0 y (omega arith))) first)
    (dcs_same xs ys (λ n d below. h (suc n) d (omega (arith, below))) (λ n d below. k (suc n) d (omega (arith, below))) rest)

same_plane : (a b : ChromaLevels) → chroma_blocks a ≡ chroma_blocks b → a ≡ b
same_plane a b e = ap (λ (x : List Levels). let levels : ChromaLevels = record { 0 = x } in levels) (luma_same a.0 b.0 e)

pub macroblock_same : (v w : Macroblock) → HasSizes v → HasSizes w → v.kind ≡ w.kind → v.qp_delta ≡ w.qp_delta → blocks_of v ≡ blocks_of w → v ≡ w
macroblock_same v w h k kinds deltas blocks =
    let missing : ChromaLevels = record { 0 = [] } in
    let luma_v = map block_of v.luma in
    let luma_w = map block_of w.luma in
    let dcs_v = map dc_block v.chroma_dc in
    let dcs_w = map dc_block w.chroma_dc in
    let cb_v = chroma_blocks (plane_of v 0) in
    let cb_w = chroma_blocks (plane_of w 0) in
    let cr_v = chroma_blocks (plane_of v 1) in
    let cr_w = chroma_blocks (plane_of w 1) in
    let all = parts_same (v.luma_dc ∷ []) ((luma_v ++ dcs_v) ++ (cb_v ++ (cr_v ++ []))) (w.luma_dc ∷ []) ((luma_w ++ dcs_w) ++ (cb_w ++ (cr_w ++ []))) refl
    (sym (mb_whole v h.chroma) ∙ blocks ∙ mb_whole w k.chroma) in
    let dc : v.luma_dc ≡ w.luma_dc = let e = all.0 in cc in
    let long_v : length luma_v ≡ 16 = length-map v.luma block_of ∙ h.luma in
    let long_w : length luma_w ≡ 16 = length-map w.luma block_of ∙ k.luma in
    let dcs_long_v : length dcs_v ≡ 2 = length-map v.chroma_dc dc_block ∙ h.chroma_dc in
    let dcs_long_w : length dcs_w ≡ 2 = length-map w.chroma_dc dc_block ∙ k.chroma_dc in
    let cb_long_v : length cb_v ≡ 4 = length-map (plane_of v 0).0 block_of ∙ h.chroma_blocks 0 missing (omega (arith, h.chroma)) in
    let cb_long_w : length cb_w ≡ 4 = length-map (plane_of w 0).0 block_of ∙ k.chroma_blocks 0 missing (omega (arith, k.chroma)) in
    let halves = parts_same (luma_v ++ dcs_v) (cb_v ++ (cr_v ++ [])) (luma_w ++ dcs_w) (cb_w ++ (cr_w ++ []))
    (length-append luma_v dcs_v ∙ ap₂ (λ (x y : ℕ). x + y) (long_v ∙ sym long_w) (dcs_long_v ∙ sym dcs_long_w) ∙ sym (length-append luma_w dcs_w)) all.1 in
    let front = parts_same luma_v dcs_v luma_w dcs_w (long_v ∙ sym long_w) halves.0 in
    let back = parts_same cb_v (cr_v ++ []) cb_w (cr_w ++ []) (cb_long_v ∙ sym cb_long_w) halves.1 in
    let luma = luma_same v.luma w.luma front.0 in
    let dcs = dcs_same v.chroma_dc w.chroma_dc h.chroma_dc_levels k.chroma_dc_levels front.1 in
    let cb = same_plane (plane_of v 0) (plane_of w 0) back.0 in
    let cr = same_plane (plane_of v 1) (plane_of w 1) (sym (append-nil cr_v) ∙ back.1 ∙ append-nil cr_w) in
    let planes : v.chroma ≡ w.chroma =
    two_of v.chroma missing h.chroma ∙ ap₂ (λ (x y : ChromaLevels). x ∷ y ∷ []) cb cr ∙ sym (two_of w.chroma missing k.chroma) in
    ap (λ (x : MbKind). let mb : Macroblock = record v { kind = x } in mb) kinds
    ∙ ap (λ (x : ℤ). let mb : Macroblock = record { kind = w.kind; qp_delta = x; luma_dc = v.luma_dc; luma = v.luma; chroma_dc = v.chroma_dc; chroma = v.chroma } in mb) deltas
    ∙ ap (λ (x : List ℤ). let mb : Macroblock = record { kind = w.kind; qp_delta = w.qp_delta; luma_dc = x; luma = v.luma; chroma_dc = v.chroma_dc; chroma = v.chroma } in mb) dc
    ∙ ap (λ (x : List Levels). let mb : Macroblock = record { kind = w.kind; qp_delta = w.qp_delta; luma_dc = w.luma_dc; luma = x; chroma_dc = v.chroma_dc; chroma = v.chroma } in mb) luma
    ∙ ap (λ (x : List DcLevels). let mb : Macroblock = record { kind = w.kind; qp_delta = w.qp_delta; luma_dc = w.luma_dc; luma = w.luma; chroma_dc = x; chroma = v.chroma } in mb) dcs
    ∙ ap (λ (x : List ChromaLevels). let mb : Macroblock = record { kind = w.kind; qp_delta = w.qp_delta; luma_dc = w.luma_dc; luma = w.luma; chroma_dc = w.chroma_dc; chroma = x } in mb) planes
