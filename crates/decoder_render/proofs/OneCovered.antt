-- So many accepted units cover one thing at most.
use Rattle.std.proofs.Common.{◌≡◌, ℕ, zero, suc, ◌<◌, ◌≤◌, inl, inr, List, length, Option, Some, None, sym, ap, ◌∙◌, subst, arith}
use Rattle.std.proofs.lemmas.Bool.{cases_lt}
use Rattle.std.proofs.lemmas.List.{ext_get_or}
use Rattle.cb_types.specs.SizeMbs.{IsWithinLimits}
use Rattle.cb_types.specs.declared.header.Header.{Header}
use Rattle.cb_types.specs.declared.macroblock.Macroblock.{Macroblock}
use Rattle.cb_types.specs.declared.mark.MbMark.{MbMark}
use Rattle.motion.specs.Border.{mark_at}
use Rattle.recon.proofs.OneSolution.{one_solution}
use Rattle.ref_lists.specs.ReferenceList.{reference_list}
use Rattle.slice_header.specs.Conditions.{HasRanges}
use Rattle.vd_plane.specs.Tiles.{tile_at}
use Rattle.vd_plane.specs.declared.tile.Tile.{Tile}
use Rattle.decoder_render.specs.Coverage.{AreAccepted, Covered, Covers, CoversNext, Given, IsNextSlice, IsRefused, covered_with, slice_in}
use Rattle.decoder_render.specs.Submission.{payload_at}
use Rattle.decoder_render.proofs.SameSlice.{same_slice}

-- lists of marks, and of tiles, that agree at each number are the same
marks_one : (m n : List MbMark) (count : ℕ) → length m ≡ count → length n ≡ count → ((number : ℕ) → number < count → mark_at m number ≡ mark_at n number) → m ≡ n
marks_one m n count of_m of_n agree = ext_get_or _ m n (of_m ∙ sym of_n) (λ number lt. agree number (omega (arith, of_m, lt)))

tiles_one : (s t : List Tile) (count : ℕ) → length s ≡ count → length t ≡ count → ((number : ℕ) → number < count → tile_at s number ≡ tile_at t number) → s ≡ t
tiles_one s t count of_s of_t agree = ext_get_or _ s t (of_s ∙ sym of_t) (λ number lt. agree number (omega (arith, of_s, lt)))

-- one header, list and macroblocks have one list of marks and of tiles
slice_one : (g : Given) (covered : Covered) (payload : List ℕ) (header : Header) (list : List (Option ℕ)) (mbs : List Macroblock) (m n : List MbMark) (s t : List Tile) → 1 ≤ g.size.width
    → IsNextSlice g covered payload header list mbs m s → IsNextSlice g covered payload header list mbs n t → (m ≡ n) × (s ≡ t)
slice_one g covered payload header list mbs m n s t wide is also =
    let same = one_solution (slice_in g header list mbs) (length mbs) m n s t wide is.whole also.whole is.rebuilt also.rebuilt (length mbs) (omega arith) in
    (marks_one m n (length mbs) is.of_marks also.of_marks same.of_marks.same, tiles_one s t (length mbs) is.of_tiles also.of_tiles same.of_tiles.same)

with_same : (covered : Covered) (h k : Header) (m n : List MbMark) (s t : List Tile) → h ≡ k → m ≡ n → s ≡ t → covered_with covered h m s ≡ covered_with covered k n t
with_same covered h k m n s t e f d =
    ap (λ (x : Header). covered_with covered x m s) e ∙ (ap (λ (x : List MbMark). covered_with covered k x s) f ∙ ap (λ (x : List Tile). covered_with covered k n x) d)

next_one : (g : Given) (covered : Covered) (payload : List ℕ) (a b : Covered) → HasRanges g.info → IsWithinLimits g.size → CoversNext g covered payload a → CoversNext g covered payload b → a ≡ b
next_one g covered payload a b ranges limits is also =
    let same = same_slice g.info g.size payload is.header also.header is.mbs also.mbs ranges limits is.slice.spelled also.slice.spelled in
    let lists : Some is.list ≡ Some also.list = sym is.slice.listed ∙ (ap (λ (h : Header). reference_list g.info h) same.of_header ∙ also.slice.listed) in
    let list : is.list ≡ also.list = cc lists in
    let x = subst (λ (h : Header). IsNextSlice g covered payload h is.list is.mbs is.marks is.tiles) same.of_header is.slice in
    let y = subst (λ (l : List (Option ℕ)). IsNextSlice g covered payload also.header l is.mbs is.marks is.tiles) list x in
    let z = subst (λ (m : List Macroblock). IsNextSlice g covered payload also.header also.list m is.marks is.tiles) same.of_macroblocks y in
    let one = slice_one g covered payload also.header also.list also.mbs is.marks also.marks is.tiles also.tiles limits.some_column z also.slice in
    is.behind ∙ (with_same covered is.header also.header is.marks also.marks is.tiles also.tiles same.of_header one.0 one.1 ∙ sym also.behind)

covers_one : (g : Given) (covered : Covered) (unit : Option (List ℕ)) (a b : Covered) → HasRanges g.info → IsWithinLimits g.size → Covers g covered unit a → Covers g covered unit b → a ≡ b
covers_one g covered None a b ranges limits is also = absurd is
covers_one g covered (Some payload) a b ranges limits is also = next_one g covered payload a b ranges limits is also

pub accepted_one : (g : Given) (units : List (Option (List ℕ))) (count : ℕ) (a b : Covered) → HasRanges g.info → IsWithinLimits g.size → AreAccepted g units count a → AreAccepted g units count b → a ≡ b
unfolding AreAccepted
accepted_one g units zero a b ranges limits is also = is ∙ sym also
accepted_one g units (suc count) a b ranges limits is also =
    let same = accepted_one g units count is.0 also.0 ranges limits is.1 also.1 in
    covers_one g also.0 (payload_at units count) a b ranges limits (subst (λ (before : Covered). Covers g before (payload_at units count) a) same is.2) also.2

-- a unit that is refused behind those before it isn't among those that are accepted
pub refused_within : (g : Given) (units : List (Option (List ℕ))) (number count : ℕ) (before covered : Covered) → HasRanges g.info → IsWithinLimits g.size
    → AreAccepted g units number before → IsRefused g before (payload_at units number) → number < count → AreAccepted g units count covered → ⊥
unfolding AreAccepted
refused_within g units number zero before covered ranges limits are refused lt all = absurd (omega arith)
refused_within g units number (suc count) before covered ranges limits are refused lt all = elim (cases_lt number count) [
  | inl less ↦ refused_within g units number count before all.0 ranges limits are refused less all.1
  | inr le ↦
      let here : count ≡ number = omega arith in
      let front = subst (λ (n : ℕ). AreAccepted g units n all.0) here all.1 in
      let same = accepted_one g units number all.0 before ranges limits front are in
      let unit = subst (λ (n : ℕ). Covers g all.0 (payload_at units n) covered) here all.2 in
      refused covered (subst (λ (c : Covered). Covers g c (payload_at units number) covered) same unit)
]
