-- The marks of constructed macroblocks are such as the deblocking filter takes.
use Rattle.std.proofs.Common.{◌≡◌, ℕ, ◌*◌, ◌%◌, ◌<◌, ◌≤◌, true, false, cond, List, All, Option, Some, None, length, get_or, refl, sym, ap, subst, arith, pos, negsuc}
use Rattle.std.specs.Prelude.{ℤ, unsigned_abs, unwrap_or, ◌≤ℤ◌, ◌+ℤ◌, ◌*ℤ◌}
use Rattle.std.proofs.lemmas.Int.{int_rem_euclid_is, ints}
use Rattle.std.proofs.lemmas.List.{get_or_default}
use Rattle.std.proofs.lemmas.Nat.{mod_below}
use Rattle.cb_types.specs.SizeMbs.{macroblocks}
use Rattle.cb_types.specs.declared.header.Header.{Header}
use Rattle.cb_types.specs.declared.macroblock.Macroblock.{Macroblock}
use Rattle.cb_types.specs.declared.macroblock.MbKind.{MbKind}
use Rattle.cb_types.specs.declared.macroblock.Vector.{Vector}
use Rattle.cb_types.specs.declared.mark.MbMark.{MbMark}
use Rattle.cb_types.specs.declared.picture_info.PictureInfo.{PictureInfo}
use Rattle.cb_types.specs.declared.size.SizeMbs.{SizeMbs}
use Rattle.deblock.specs.Marks.{AreMarks, IsMark, IsVectorWithinLimits}
use Rattle.int_transform.specs.Bounds.{IsWithin}
use Rattle.motion.specs.Border.{macroblock_at, mark_at, no_mark}
use Rattle.motion.specs.Kinds.{is_intra}
use Rattle.motion.specs.Partitions.{partition_of}
use Rattle.motion.specs.Vectors.{AreVectors, IsWithinBounds}
use Rattle.motion.specs.declared.border.Border.{Border}
use Rattle.mv_pred.specs.Neighbours.{no_motion}
use Rattle.vd_plane.specs.declared.tile.Tile.{Tile}
use Rattle.recon.specs.Conditions.{IsMacroblockRange, IsSlice}
use Rattle.recon.specs.Laws.{IsWholeMark}
use Rattle.recon.specs.Marks.{place_in}
use Rattle.recon.specs.Quantizer.{next_qp, qp_before, qp_of}
use Rattle.recon.specs.Rebuilt.{AreRebuilt, IsRebuilt}
use Rattle.recon.specs.References.{ArePlaces, place_of}
use Rattle.recon.specs.Slice.{Slice, macroblock}

-- ---- the quantizer

next_small : (qp : ℕ) (delta : ℤ) → negsuc 25 ≤ℤ delta → next_qp qp delta ≤ 51
next_small qp delta least =
    let z = pos qp +ℤ delta +ℤ pos 52 in
    let n = unsigned_abs z in
    let whole : z +ℤ pos (0 * 52) ≡ pos n = omega (arith, ints) in
    let some : 0 < 52 = omega arith in
    let rest : n % 52 < 52 = mod_below n 52 some in
    let is : next_qp qp delta ≡ n % 52 = ap unsigned_abs (int_rem_euclid_is z (pos 52) 52 0 n some refl whole) in
    omega (arith, is, rest)

qp_small : (info : PictureInfo) (header : Header) (mbs : List Macroblock) (number : ℕ) → IsMacroblockRange (macroblock_at mbs number) → qp_of info header mbs number ≤ 51
unfolding qp_before
qp_small info header mbs number h = next_small (qp_before info header mbs number) (macroblock_at mbs number).qp_delta h.least_delta

-- ---- the filter's offsets, pictures and vectors

twice_within : (z : ℤ) → unsigned_abs z ≤ 6 → IsWithin 12 (pos 2 *ℤ z)
twice_within z h = record { least = omega (arith, ints, h); most = omega (arith, ints, h) }

some_small : (info : PictureInfo) (list : List (Option ℕ)) (entry : ℕ) → ArePlaces info list → (o : Option ℕ) → place_of list entry ≡ o → unwrap_or o 0 < 16
some_small info list entry places None e = omega arith
some_small info list entry places (Some place) e = (places entry place e).0

place_small : (info : PictureInfo) (list : List (Option ℕ)) (kind : MbKind) (block : ℕ) → ArePlaces info list → place_in list kind block < 16
place_small info list kind block places =
    let entry = (partition_of kind block).reference in
    elim (is_intra kind) as (λ b. cond b 0 (unwrap_or (place_of list entry) 0) < 16) [
      | true ↦ omega arith
      | false ↦ some_small info list entry places (place_of list entry) refl
    ]

vector_within : (v : Vector) → IsWithinBounds v → IsVectorWithinLimits v
vector_within v h = record {
  left = omega (arith, ints, h.across.least);
  right = omega (arith, ints, h.across.most);
  up = omega (arith, ints, h.down.least);
  down = omega (arith, ints, h.down.most);
}

pictures_small : (info : PictureInfo) (list : List (Option ℕ)) (kind : MbKind) (pictures : List ℕ) → ArePlaces info list → length pictures ≡ 16
    → ((block : ℕ) → block < 16 → get_or pictures block 0 ≡ place_in list kind block) → All (λ place. place < 16) pictures
pictures_small info list kind pictures places size each k d below =
    let inside : k < 16 = omega (arith, below, size) in
    let small = place_small info list kind k places in
    omega (arith, small, each k inside, get_or_default pictures k d 0 below)

vectors_within : (border : Border) (kind : MbKind) (vectors : List Vector) → length vectors ≡ 16 → AreVectors border kind 16 vectors → All IsVectorWithinLimits vectors
vectors_within border kind vectors size are k d below =
    let inside : k < 16 = omega (arith, below, size) in
    subst IsVectorWithinLimits (get_or_default vectors k no_motion d below) (vector_within _ (are k inside).bounds)

-- ---- marks

-- A constructed macroblock's mark is one that the filter takes.
pub mark_range : (slice : Slice) (marks : List MbMark) (tiles : List Tile) (count number : ℕ) → IsSlice slice count → slice.header.deblock_idc ≤ 2 → number < count
    → IsWholeMark (mark_at marks number) → IsRebuilt slice marks tiles number → IsMark (mark_at marks number)
mark_range slice marks tiles count number is idc below whole h =
    let mark = mark_at marks number in
    let qp = qp_small slice.info slice.header slice.macroblocks number (is.each number below) in
    record {
      qp = omega (arith, h.mark.of_qp, qp);
      idc = omega (arith, h.mark.of_idc, idc);
      alpha = subst (IsWithin 12) (sym h.mark.of_alpha) (twice_within slice.header.alpha_half is.header.alpha);
      beta = subst (IsWithin 12) (sym h.mark.of_beta) (twice_within slice.header.beta_half is.header.beta);
      pictures = pictures_small slice.info slice.list (macroblock slice number).kind mark.pictures is.list whole.pictures h.mark.of_pictures;
      vectors = vectors_within _ (macroblock slice number).kind mark.vectors whole.vectors h.vectors;
    }

-- So are those of a constructed slice.
pub marks_range : (slice : Slice) (marks : List MbMark) (tiles : List Tile) (count : ℕ) → IsSlice slice count → slice.header.deblock_idc ≤ 2
    → ((number : ℕ) → number < count → IsWholeMark (mark_at marks number)) → AreRebuilt slice marks tiles count → (number : ℕ) → number < count → IsMark (mark_at marks number)
marks_range slice marks tiles count is idc whole h number below = mark_range slice marks tiles count number is idc below (whole number below) (h number below)

-- Where each macroblock of a picture has such a mark, the filter takes them.
pub all_marks : (size : SizeMbs) (marks : List MbMark) → length marks ≡ macroblocks size → ((number : ℕ) → number < macroblocks size → IsMark (mark_at marks number)) → AreMarks size marks
all_marks size marks count each = record {
  count = count;
  each = λ k d below. subst IsMark (get_or_default marks k no_mark d below) (each k (omega (arith, below, count)));
}
