-- The macroblocks that have a spelling are few.
use Rattle.std.proofs.Common.{◌≡◌, ◌⊎◌, inl, inr, true, false, List, [], ◌∷◌, ◌++◌, length, map, replicate, refl, subst, ℤ, pos, negsuc, ◌≤ℤ◌}
use Rattle.std.specs.List.{All, flat_map}
use Rattle.std.proofs.lemmas.List.Elements.{All-head}
use Rattle.cb_types.specs.declared.macroblock.ChromaLevels.{ChromaLevels}
use Rattle.cb_types.specs.declared.macroblock.DcLevels.{DcLevels}
use Rattle.cb_types.specs.declared.macroblock.Levels.{Levels}
use Rattle.cb_types.specs.declared.macroblock.Macroblock.{Macroblock}
use Rattle.cb_types.specs.declared.macroblock.MbKind.{MbKind}
use Rattle.finite.specs.Decided.{Decided}
use Rattle.finite.specs.Finite.{Finite}
use Rattle.finite.proofs.Deciding.{both, decided_as, either, implies, never}
use Rattle.finite.proofs.Equal.{equal_booleans, equal_integers, integer_at_most}
use Rattle.finite.proofs.Lists.{lists_of}
use Rattle.finite.proofs.Numbers.{integers_between}
use Rattle.finite.proofs.Sets.{joined, onto, pairs, single}
use Rattle.mb_syntax.specs.Counts.{block_of, blocks_of, chroma_blocks, dc_block}
use Rattle.mb_syntax.specs.Kinds.{has_qp_delta}
use Rattle.mb_syntax.specs.MacroblockLayer.{IsCoded, IsQpDelta}
use Rattle.mb_syntax.specs.Prediction.{IsKind}
use Rattle.mb_syntax.specs.SliceData.{HasSpelling, skipped}
use Rattle.mb_syntax.specs.declared.slice.Slice.{Slice}
use Rattle.slice_readings.proofs.BlockChoices.{All-back, All-flat, All-front, All-mapped, IsBlock, IsLevel, block_parts, blocks_are, blocks_decided, blocks_few, levels_few}
use Rattle.slice_readings.proofs.KindChoices.{kinds_few}

-- ---- the arrays of a macroblock

IsLevels : Levels → Type 0
IsLevels levels = IsBlock levels.0

IsDc : DcLevels → Type 0
IsDc levels = (length levels.0 ≡ 4) × All IsLevel levels.0

IsPlane : ChromaLevels → Type 0
IsPlane plane = (length plane.0 ≡ 4) × All IsLevels plane.0

levels_arrays : Finite IsLevels
unfolding IsLevels
levels_arrays = onto IsLevels (λ (block : List ℤ). let levels : Levels = record { 0 = block } in levels) blocks_few
    (λ block h. h) (λ levels h. (levels.0, h, refl))

dc_arrays : Finite IsDc
unfolding IsDc
dc_arrays = onto IsDc (λ (xs : List ℤ). let levels : DcLevels = record { 0 = xs } in levels) (lists_of IsLevel levels_few 4)
    (λ xs h. h) (λ levels h. (levels.0, h, refl))

plane_arrays : Finite IsPlane
unfolding IsPlane
plane_arrays = onto IsPlane (λ (xs : List Levels). let plane : ChromaLevels = record { 0 = xs } in plane) (lists_of IsLevels levels_arrays 4)
    (λ xs h. h) (λ plane h. (plane.0, h, refl))

-- a macroblock, but for how its blocks are spelled
record IsNear (slice : Slice) (mb : Macroblock) : Type 0 where
  kind : IsKind slice mb.kind
  least : negsuc 25 ≤ℤ mb.qp_delta
  greatest : mb.qp_delta ≤ℤ pos 25
  luma_dc : IsBlock mb.luma_dc
  luma_size : length mb.luma ≡ 16
  luma : All IsLevels mb.luma
  dc_size : length mb.chroma_dc ≡ 2
  dc : All IsDc mb.chroma_dc
  chroma_size : length mb.chroma ≡ 2
  chroma : All IsPlane mb.chroma

abbrev Parts : Type 0
Parts = MbKind × (ℤ × (List ℤ × (List Levels × (List DcLevels × List ChromaLevels))))

abbrev of_parts : Parts → Macroblock
of_parts p = record { kind = p.0; qp_delta = p.1.0; luma_dc = p.1.1.0; luma = p.1.1.1.0; chroma_dc = p.1.1.1.1.0; chroma = p.1.1.1.1.1 }

abbrev parts_of : Macroblock → Parts
parts_of mb = (mb.kind, (mb.qp_delta, (mb.luma_dc, (mb.luma, (mb.chroma_dc, mb.chroma)))))

near_few : (slice : Slice) → Finite (IsNear slice)
near_few slice = onto (IsNear slice) of_parts
    (pairs (kinds_few slice) (λ kind h. pairs (integers_between (negsuc 25) (pos 25)) (λ delta h. pairs blocks_few
    (λ dc h. pairs (lists_of IsLevels levels_arrays 16) (λ luma h. pairs (lists_of IsDc dc_arrays 2) (λ dcs h. lists_of IsPlane plane_arrays 2))))))
    (λ p h. record {
      kind = h.0;
      least = h.1.0.0;
      greatest = h.1.0.1;
      luma_dc = h.1.1.0;
      luma_size = h.1.1.1.0.0;
      luma = h.1.1.1.0.1;
      dc_size = h.1.1.1.1.0.0;
      dc = h.1.1.1.1.0.1;
      chroma_size = h.1.1.1.1.1.0;
      chroma = h.1.1.1.1.1.1;
    })
    (λ mb h. (parts_of mb, (h.kind, ((h.least, h.greatest), (h.luma_dc, ((h.luma_size, h.luma), ((h.dc_size, h.dc), (h.chroma_size, h.chroma)))))), refl))

-- ---- a macroblock that is spelled is near

dc_levels : (levels : DcLevels) → IsBlock (dc_block levels) → All IsLevel levels.0
dc_levels levels h = All-front IsLevel levels.0 (replicate 12 (pos 0)) (block_parts (dc_block levels) h).1

dcs_are : (xs : List DcLevels) → All (λ levels. length levels.0 ≡ 4) xs → All (λ levels. IsBlock (dc_block levels)) xs → All IsDc xs
unfolding IsDc
dcs_are xs sizes blocks k d below = (sizes k d below, dc_levels _ (blocks k d below))

planes_are : (xs : List ChromaLevels) → All (λ levels. length levels.0 ≡ 4) xs → All (λ plane. All IsBlock (chroma_blocks plane)) xs → All IsPlane xs
unfolding IsPlane IsLevels
planes_are xs sizes blocks k d below = (sizes k d below, All-mapped IsBlock block_of _ (blocks k d below))

coded_near : (slice : Slice) (before : List Macroblock) (mb : Macroblock) → IsCoded slice before mb → IsNear slice mb
unfolding IsLevels
coded_near slice before mb h =
    let luma = map block_of mb.luma in
    let dcs = map dc_block mb.chroma_dc in
    let chroma = flat_map chroma_blocks mb.chroma in
    let all : All IsBlock (blocks_of mb) = blocks_are slice before mb.kind (blocks_of mb) h.blocks in
    let behind = All-back IsBlock (mb.luma_dc ∷ []) ((luma ++ dcs) ++ chroma) all in
    let first = All-front IsBlock (luma ++ dcs) chroma behind in
    record {
      kind = h.kind;
      least = h.qp_delta.least;
      greatest = h.qp_delta.greatest;
      luma_dc = All-head IsBlock mb.luma_dc ((luma ++ dcs) ++ chroma) all;
      luma_size = h.luma;
      luma = All-mapped IsBlock block_of mb.luma (All-front IsBlock luma dcs first);
      dc_size = h.chroma_dc;
      dc = dcs_are mb.chroma_dc h.chroma_dc_levels (All-mapped IsBlock dc_block mb.chroma_dc (All-back IsBlock luma dcs first));
      chroma_size = h.chroma;
      chroma = planes_are mb.chroma h.chroma_blocks (All-flat IsBlock chroma_blocks mb.chroma (All-back IsBlock (luma ++ dcs) chroma behind));
    }

-- ---- whether it is spelled

delta_decided : (kind : MbKind) (delta : ℤ) → Decided (IsQpDelta kind delta)
delta_decided kind delta =
    decided_as (λ h. record { least = h.0; greatest = h.1.0; absent = h.1.1 }) (λ h. (h.least, (h.greatest, h.absent)))
    (both (integer_at_most (negsuc 25) delta) (λ h. both (integer_at_most delta (pos 25))
    (λ h. implies (equal_booleans (has_qp_delta kind) false) (λ h. equal_integers delta (pos 0)))))

dc_sizes : (mb : Macroblock) → All IsDc mb.chroma_dc → All (λ levels. length levels.0 ≡ 4) mb.chroma_dc
unfolding IsDc
dc_sizes mb h k d below = (h k d below).0

plane_sizes : (mb : Macroblock) → All IsPlane mb.chroma → All (λ levels. length levels.0 ≡ 4) mb.chroma
unfolding IsPlane
plane_sizes mb h k d below = (h k d below).0

coded_decided : (slice : Slice) (before : List Macroblock) (mb : Macroblock) → IsNear slice mb → Decided (IsCoded slice before mb)
coded_decided slice before mb near = decided_as
    (λ h. record {
      kind = near.kind;
      qp_delta = h.0;
      luma = near.luma_size;
      chroma_dc = near.dc_size;
      chroma_dc_levels = dc_sizes mb near.dc;
      chroma = near.chroma_size;
      chroma_blocks = plane_sizes mb near.chroma;
      blocks = h.1;
    })
    (λ h. (h.qp_delta, h.blocks))
    (both (delta_decided mb.kind mb.qp_delta) (λ h. blocks_decided slice before mb.kind (blocks_of mb)))

-- a macroblock that a slice may have: a skipped one, or one near to those that are spelled
pub IsFew : Slice → Macroblock → Type 0
IsFew slice mb = (mb ≡ skipped) ⊎ IsNear slice mb

pub macroblocks_few : (slice : Slice) → Finite (IsFew slice)
unfolding IsFew
macroblocks_few slice = joined (single skipped) (near_few slice)

pub spelled_few : (slice : Slice) (before : List Macroblock) (mb : Macroblock) → HasSpelling slice before mb → IsFew slice mb
unfolding IsFew
spelled_few slice before mb (inl h) = inl h.same
spelled_few slice before mb (inr h) = inr (coded_near slice before mb h)

not_coded : (slice : Slice) (before : List Macroblock) (mb : Macroblock) → mb ≡ skipped → IsCoded slice before mb → ⊥
not_coded slice before mb e h = subst (λ (mb : Macroblock). IsKind slice mb.kind) e h.kind

spelling_of_few : (slice : Slice) (before : List Macroblock) (mb : Macroblock) → (mb ≡ skipped) ⊎ IsNear slice mb
    → Decided (HasSpelling slice before mb)
spelling_of_few slice before mb (inl e) = either
    (decided_as (λ p. record { in_p = p; same = e }) (λ h. h.in_p) (equal_booleans slice.is_p true))
    (never (not_coded slice before mb e))
spelling_of_few slice before mb (inr near) = either
    (never (λ h. subst (λ (mb : Macroblock). IsKind slice mb.kind) h.same near.kind))
    (coded_decided slice before mb near)

pub spelling_decided : (slice : Slice) (before : List Macroblock) (mb : Macroblock) → IsFew slice mb → Decided (HasSpelling slice before mb)
unfolding IsFew
spelling_decided slice before mb few = spelling_of_few slice before mb few
