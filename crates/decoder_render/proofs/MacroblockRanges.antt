-- What the macroblocks that are read say to their construction.
use Rattle.std.proofs.Common.{◌≡◌, ℕ, ◌+◌, ◌<◌, ◌≤◌, Bool, true, false, List, [], ◌∷◌, ◌++◌, All, inl, inr, length, map, take, get_or, replicate, length-append, refl, sym, subst, arith, pos, negsuc}
use Rattle.std.specs.Prelude.{ℤ, unsigned_abs}
use Rattle.std.specs.List.{flat_map}
use Rattle.std.proofs.lemmas.Int.{ints}
use Rattle.std.proofs.lemmas.List.{get_or-append-add, get_or-map, get_or_append_left, get_or_default, length-map}
use Rattle.std.proofs.lemmas.List.Elements.{All-cons, All-nil, All-replicate}
use Rattle.cavlc.specs.Turns.{state_behind}
use Rattle.cavlc.specs.Blocks.{HasSpelling}
use Rattle.cavlc.proofs.SizeLemmas.{coefficients_small}
use Rattle.cavlc.proofs.TurnLemmas.{is_at}
use Rattle.cb_types.specs.Slices.{active_entries}
use Rattle.cb_types.specs.declared.header.Header.{Header}
use Rattle.cb_types.specs.declared.macroblock.ChromaLevels.{ChromaLevels}
use Rattle.cb_types.specs.declared.macroblock.DcLevels.{DcLevels}
use Rattle.cb_types.specs.declared.macroblock.Levels.{Levels}
use Rattle.cb_types.specs.declared.macroblock.Macroblock.{Macroblock}
use Rattle.cb_types.specs.declared.macroblock.MbKind.{MbKind}
use Rattle.cb_types.specs.declared.macroblock.MbKind.TheVariants.{Skip, Pcm, Intra4, Intra16, Whole, Wide, Tall, Four, FourFirst}
use Rattle.cb_types.specs.declared.macroblock.Mode.{Mode}
use Rattle.cb_types.specs.declared.macroblock.Mode.TheVariants.{Predicted, Remaining}
use Rattle.cb_types.specs.declared.picture_info.PictureInfo.{PictureInfo}
use Rattle.cb_types.specs.declared.size.SizeMbs.{SizeMbs}
use Rattle.int_transform.specs.Bounds.{AreWithin, IsWithin}
use Rattle.mb_syntax.specs.Blocks.{AreBlocks, IsNextBlock, block_behind, is_coded, most_levels, next_block_bits}
use Rattle.mb_syntax.specs.Counts.{block_of, blocks_of, chroma_blocks, dc_block, nc_at}
use Rattle.mb_syntax.specs.MacroblockLayer.{IsCoded}
use Rattle.mb_syntax.specs.Prediction.{IsKind, IsMode}
use Rattle.mb_syntax.specs.Slice.{slice_of}
use Rattle.mb_syntax.specs.SliceData as slice_data
use Rattle.mb_syntax.specs.SliceData.{AreSliceData, mb_behind, skipped}
use Rattle.mb_syntax.specs.declared.slice.Slice.{Slice}
use Rattle.motion.specs.Border.{macroblock_at, no_macroblock}
use Rattle.recon.specs.Conditions.{AreChromaLevels, AreDcLevels, AreLevels, IsKindRange, IsMacroblockRange, IsModeRange}

-- ---- kinds

mode_range : (mode : Mode) → IsMode mode → IsModeRange mode
mode_range Predicted h = tt
mode_range (Remaining mode) h = h

pub kind_range : (slice : Slice) (kind : MbKind) → slice.active ≤ 16 → IsKind slice kind → IsKindRange kind
kind_range slice Skip few h = tt
kind_range slice (Pcm samples) few h = tt
kind_range slice (Intra4 modes chroma pattern) few h = λ k d below. mode_range _ (h.0.1 k d below)
kind_range slice (Intra16 mode chroma pattern) few h = tt
kind_range slice (Whole part pattern) few h = omega (arith, few, h.1.reference)
kind_range slice (Wide parts pattern) few h = λ k d below. let one = h.1.each k d below in omega (arith, few, one.reference)
kind_range slice (Tall parts pattern) few h = λ k d below. let one = h.1.each k d below in omega (arith, few, one.reference)
kind_range slice (Four subs pattern) few h = λ k d below. let one = h.2 k d below in omega (arith, few, one.reference)
kind_range slice (FourFirst subs pattern) few h = λ k d below. let one = h.2 k d below in omega (arith, few, one.spelling.reference)

-- ---- levels

small_within : (z : ℤ) → unsigned_abs z ≤ 2528 → IsWithin 4096 z
small_within (pos n) h = record { least = omega (arith, ints, h); most = omega (arith, ints, h) }
small_within (negsuc n) h = record { least = omega (arith, ints, h); most = omega (arith, ints, h) }

zero_within : IsWithin 4096 (pos 0)
zero_within = record { least = omega (arith, ints); most = omega (arith, ints) }

spelled_within : (nc : ℤ) (most : ℕ) (block : List ℤ) → HasSpelling nc most block → AreWithin 4096 block
spelled_within nc most block h k d below =
    subst (IsWithin 4096) (get_or_default block k (pos 0) d below) (small_within _ (coefficients_small nc most block h k))

zeros_within : (n : ℕ) → AreWithin 4096 (replicate n (pos 0))
zeros_within n = All-replicate (IsWithin 4096) n (pos 0) zero_within

block_within : (coded : Bool) (nc : ℤ) (most : ℕ) (block : List ℤ) → (coded ≡ true → HasSpelling nc most block) → (coded ≡ false → block ≡ replicate 16 (pos 0)) → AreWithin 4096 block
block_within true nc most block h k = spelled_within nc most block (h refl)
block_within false nc most block h k = subst (AreWithin 4096) (sym (k refl)) (zeros_within 16)

-- No level of the blocks of a macroblock is greater than 4,096.
pub blocks_within : (slice : Slice) (before : List Macroblock) (kind : MbKind) (blocks : List (List ℤ)) → AreBlocks slice before kind blocks → All (AreWithin 4096) blocks
blocks_within slice before kind blocks h k d below =
    let behind = state_behind block_behind [] (take k blocks) in
    let next : IsNextBlock slice before kind behind (get_or blocks k d) = is_at (IsNextBlock slice before kind) (next_block_bits slice before kind) block_behind [] blocks k d below h in
    block_within (is_coded kind (length behind)) (nc_at slice before behind (length behind)) (most_levels kind (length behind)) (get_or blocks k d) next.coded next.not_coded

-- ---- of parts of a list

All-front : {A : Type 0} (P : A → Type 0) (xs ys : List A) → All P (xs ++ ys) → All P xs
All-front P xs ys h k d below = subst P (get_or_append_left xs ys d k below) (h k d (omega (arith, below, length-append xs ys)))

All-back : {A : Type 0} (P : A → Type 0) (xs ys : List A) → All P (xs ++ ys) → All P ys
All-back P xs ys h k d below = subst P (get_or-append-add xs ys k d) (h (length xs + k) d (omega (arith, below, length-append xs ys)))

All-mapped : {A B : Type 0} (P : B → Type 0) (f : A → B) (xs : List A) → All P (map f xs) → All (λ x. P (f x)) xs
All-mapped P f xs h k d below = subst P (get_or-map f xs k d (f d) below) (h k (f d) (omega (arith, below, length-map xs f)))

All-flat : {A B : Type 0} (P : B → Type 0) (f : A → List B) (xs : List A) → All P (flat_map f xs) → All (λ x. All P (f x)) xs
All-flat P f [] h = All-nil (λ x. All P (f x))
All-flat P f (x ∷ xs) h = All-cons (λ x. All P (f x)) x xs (All-front P (f x) (flat_map f xs) h) (All-flat P f xs (All-back P (f x) (flat_map f xs) h))

-- ---- macroblocks

pub coded_range : (slice : Slice) (before : List Macroblock) (mb : Macroblock) → slice.active ≤ 16 → IsCoded slice before mb → IsMacroblockRange mb
coded_range slice before mb few h =
    let luma = map block_of mb.luma in
    let dcs = map dc_block mb.chroma_dc in
    let chroma = flat_map chroma_blocks mb.chroma in
    let all = blocks_within slice before mb.kind (blocks_of mb) h.blocks in
    let behind = All-back (AreWithin 4096) (mb.luma_dc ∷ []) ((luma ++ dcs) ++ chroma) all in
    let first = All-front (AreWithin 4096) (luma ++ dcs) chroma behind in
    let planes = All-flat (AreWithin 4096) chroma_blocks mb.chroma (All-back (AreWithin 4096) (luma ++ dcs) chroma behind) in
    record {
      kind = kind_range slice mb.kind few h.kind;
      least_delta = h.qp_delta.least;
      greatest_delta = h.qp_delta.greatest;
      luma_dc = all 0 [] (omega arith);
      luma = All-mapped (AreWithin 4096) block_of mb.luma (All-front (AreWithin 4096) luma dcs first);
      chroma_dc = λ k d below. All-front (IsWithin 4096) _ (replicate 12 (pos 0)) (All-mapped (AreWithin 4096) dc_block mb.chroma_dc (All-back (AreWithin 4096) luma dcs first) k d below);
      chroma = λ k d below. All-mapped (AreWithin 4096) block_of _ (planes k d below);
    }

skipped_range : IsMacroblockRange skipped
skipped_range =
    let zeros : Levels = record { 0 = replicate 16 (pos 0) } in
    let dc : DcLevels = record { 0 = replicate 4 (pos 0) } in
    let plane : ChromaLevels = record { 0 = replicate 4 zeros } in
    record {
      kind = tt;
      least_delta = omega (arith, ints);
      greatest_delta = omega (arith, ints);
      luma_dc = zeros_within 16;
      luma = All-replicate AreLevels 16 zeros (zeros_within 16);
      chroma_dc = All-replicate AreDcLevels 2 dc (zeros_within 4);
      chroma = All-replicate AreChromaLevels 2 plane (All-replicate AreLevels 4 zeros (zeros_within 16));
    }

-- A macroblock that has a spelling is in the ranges of its construction.
pub macroblock_range : (slice : Slice) (before : List Macroblock) (mb : Macroblock) → slice.active ≤ 16 → slice_data.HasSpelling slice before mb → IsMacroblockRange mb
macroblock_range slice before mb few (inl s) = subst IsMacroblockRange (sym s.same) skipped_range
macroblock_range slice before mb few (inr h) = coded_range slice before mb few h

-- Each macroblock of a slice that is read is.
pub macroblocks_range : (info : PictureInfo) (header : Header) (size : SizeMbs) (bits : List Bool) (mbs : List Macroblock) → active_entries info header ≤ 16 → AreSliceData info header size bits mbs
    → (number : ℕ) → number < length mbs → IsMacroblockRange (macroblock_at mbs number)
macroblocks_range info header size bits mbs few h number below =
    let slice = slice_of info header size in
    let each = h.1.each in
    macroblock_range slice (state_behind mb_behind [] (take number mbs)) (macroblock_at mbs number) few
    (is_at (slice_data.HasSpelling slice) (λ before mb. []) mb_behind [] mbs number no_macroblock below each)
