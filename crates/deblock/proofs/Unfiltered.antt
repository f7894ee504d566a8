-- Planes of which no edge is filtered.
use Rattle.std.proofs.Common.{◌≡◌, ℕ, ◌+◌, ◌*◌, ◌/◌, Bool, false, cond, not, eqb, ◌&&◌, List, length, Option, Some, None, ℤ, refl, ap, sym, ◌∙◌, arith}
use Rattle.std.specs.List.{All}
use Rattle.cb_types.specs.SizeMbs.{macroblocks}
use Rattle.cb_types.specs.declared.mark.MbMark.{MbMark}
use Rattle.cb_types.specs.declared.size.SizeMbs.{SizeMbs}
use Rattle.vd_plane.specs.SampleArray.{array_of}
use Rattle.deblock.specs.Deblocked.{after_lines}
use Rattle.deblock.specs.Edges.{before, mark_at, no_mark, strength_at, strength_from}
use Rattle.deblock.specs.Laws.{UnfilteredPlanesStay}
use Rattle.deblock.specs.Lines.{after_chroma_line, after_luma_line, line}
use Rattle.deblock.specs.Thresholds.{chroma, luma}
use Rattle.deblock.proofs.IdleEdges.{none_strength}
use Rattle.deblock.proofs.Places.{IsIdle, chroma_leaves, luma_leaves, weak}
use Rattle.deblock.proofs.Steps.{idle_lines}

off : (b : Bool) (n : ℕ) → b ≡ false → cond b n 0 ≡ 0
off b n is = ap (λ x. cond x n 0) is

not_one : (idc : ℕ) (b : Bool) → idc ≡ 1 → (not (eqb idc 1) && b) ≡ false
not_one idc b is = ap (λ n. not (eqb n 1) && b) is

no_strength : (marks : List MbMark) (o : Option ℕ) (mb : ℕ) (v : Bool) (e p : ℕ) → (mark_at marks mb).idc ≡ 1 → strength_from marks o mb v e p ≡ 0
no_strength marks None mb v e p is = refl
no_strength marks (Some other) mb v e p is = off _ _ (not_one _ _ is)

pub no_strength_at : (w : ℕ) (marks : List MbMark) (mb : ℕ) (v : Bool) (e p : ℕ) → (mark_at marks mb).idc ≡ 1 → strength_at w marks mb v e p ≡ 0
unfolding strength_at
no_strength_at w marks mb v e p is = no_strength marks (before w mb v e) mb v e p is

unfiltered_luma_line : (w : ℕ) (marks : List MbMark) (n : ℕ) → (mark_at marks (n / 128)).idc ≡ 1 → IsIdle (line luma w marks n).filter
unfolding line
unfiltered_luma_line w marks n is = weak _ (none_strength luma marks _ _ _ ∙ no_strength_at w marks (n / 128) _ _ _ is)

unfiltered_chroma_line : (o : ℤ) (w : ℕ) (marks : List MbMark) (n : ℕ) → (mark_at marks (n / 32)).idc ≡ 1 → IsIdle (line (chroma o) w marks n).filter
unfolding line
unfiltered_chroma_line o w marks n is = weak _ (none_strength (chroma o) marks _ _ _ ∙ no_strength_at w marks (n / 32) _ _ _ is)

luma_stays : (size : SizeMbs) (marks : List MbMark) (s : List ℕ) → length marks ≡ macroblocks size → All (λ mark. mark.idc ≡ 1) marks → s ≡ after_lines after_luma_line (line luma size.width marks) 0 (128 * macroblocks size) s
luma_stays size marks s count each =
    idle_lines after_luma_line (line luma size.width marks) 0 (128 * macroblocks size) s
    (λ k h t. luma_leaves.leaves _ _ _ (unfiltered_luma_line size.width marks (0 + k) (each ((0 + k) / 128) no_mark (omega arith))) t)

chroma_stays : (o : ℤ) (size : SizeMbs) (marks : List MbMark) (s : List ℕ) → length marks ≡ macroblocks size → All (λ mark. mark.idc ≡ 1) marks → s ≡ after_lines after_chroma_line (line (chroma o) size.width marks) 0 (32 * macroblocks size) s
chroma_stays o size marks s count each =
    idle_lines after_chroma_line (line (chroma o) size.width marks) 0 (32 * macroblocks size) s
    (λ k h t. chroma_leaves.leaves _ _ _ (unfiltered_chroma_line o size.width marks (0 + k) (each ((0 + k) / 32) no_mark (omega arith))) t)

pub unfiltered_planes_stay : UnfilteredPlanesStay
unfiltered_planes_stay size marks offset a count each = (
  ap (array_of a.width a.height) (sym (luma_stays size marks a.samples count each)),
  ap (array_of a.width a.height) (sym (chroma_stays offset size marks a.samples count each)),
)
