-- Two solutions of a slice's equations are the same.
use Rattle.std.proofs.Common.{◌≡◌, ℕ, zero, suc, ◌+◌, ◌*◌, ◌/◌, ◌%◌, ◌<◌, ◌≤◌, Bool, false, inl, inr, List, length, get_or, Option, sym, ap, ◌∙◌, subst, arith}
use Rattle.std.specs.Prelude.{ℤ}
use Rattle.std.proofs.lemmas.Bool.{cases_lt}
use Rattle.std.proofs.lemmas.List.{ext_get_or}
use Rattle.cb_types.specs.Blocks.{block_at}
use Rattle.cb_types.specs.declared.header.Header.{Header}
use Rattle.cb_types.specs.declared.macroblock.Macroblock.{Macroblock}
use Rattle.cb_types.specs.declared.macroblock.MbKind.{MbKind}
use Rattle.cb_types.specs.declared.macroblock.MbKind.TheVariants.{Skip, Pcm, Intra4, Intra16, Whole, Wide, Tall, Four, FourFirst}
use Rattle.cb_types.specs.declared.macroblock.Vector.{Vector}
use Rattle.cb_types.specs.declared.mark.MbMark.{MbMark}
use Rattle.mv_pred.specs.Neighbours.{no_motion}
use Rattle.motion.specs.Border.{mark_at}
use Rattle.motion.specs.Vectors.{AreVectors}
use Rattle.motion.specs.declared.border.Border.{Border}
use Rattle.motion.proofs.VectorLemmas.{AgreeBefore, vector_same}
use Rattle.vd_plane.specs.Tiles.{sample_in_rows, tile_at}
use Rattle.vd_plane.specs.declared.tile.Tile.{Tile}
use Rattle.recon.specs.Edges.{luma_edges}
use Rattle.recon.specs.Intra.{intra4_sample}
use Rattle.recon.specs.Laws.{AreWhole, IsWholeMark, IsWholeTile}
use Rattle.recon.specs.Marks.{IsMarkOf}
use Rattle.recon.specs.Rebuilt.{AreRebuilt, IsRebuilt, IsTile, border_at, luma_qp_at, luma_sample, modes_at, usable_at}
use Rattle.recon.specs.Residuals.{constructed, luma_residual}
use Rattle.recon.specs.Slice.{Slice, kind_at, macroblock}
use Rattle.recon.specs.declared.edges.Edges.{Edges}
use Rattle.recon.proofs.Intra4Lemmas.{from_sides, intra4_is}
use Rattle.recon.proofs.SamePrefix.{SameMarks, SameTiles, border_at_kept, tile_kept}
use Rattle.recon.proofs.SidesLemmas.{SameBefore, sides_same}

-- vectors, block by block
pub vectors_agree : (border : Border) (kind : MbKind) (v w : List Vector) (end : ℕ) → end ≤ 16 → AreVectors border kind end v → AreVectors border kind end w → AgreeBefore end v w
vectors_agree border kind v w zero within of_v of_w = record { same = λ block lt. absurd (omega arith) }
vectors_agree border kind v w (suc end) within of_v of_w =
    let before : AgreeBefore end v w = vectors_agree border kind v w end (omega arith) (λ block lt. of_v block (omega arith)) (λ block lt. of_w block (omega arith)) in
    let here : get_or v end no_motion ≡ get_or w end no_motion = (of_v end (omega arith)).value ∙ (vector_same border kind v w end (omega arith) before ∙ sym (of_w end (omega arith)).value) in
    record {
      same = λ block lt. elim (cases_lt block end) [
        | inl less ↦ before.same block less
        | inr le ↦ let same : end ≡ block = omega arith in subst (λ b. get_or v b no_motion ≡ get_or w b no_motion) same here
      ];
    }

vectors_one : (border : Border) (kind : MbKind) (v w : List Vector) → length v ≡ 16 → length w ≡ 16 → AreVectors border kind 16 v → AreVectors border kind 16 w → v ≡ w
vectors_one border kind v w count other of_v of_w =
    ext_get_or no_motion v w (count ∙ sym other) (λ block lt. (vectors_agree border kind v w 16 (omega arith) of_v of_w).same block (omega arith))

-- Intra4x4 samples, block by block
abbrev IsIntra4 : Edges → List ℕ → (ℕ → ℕ → ℤ) → List ℕ → Type 0
IsIntra4 edges modes residual l = (x y : ℕ) → x < 16 → y < 16 → sample_in_rows 16 l x y ≡ constructed (intra4_sample edges modes l x y) (residual x y)

intra4_here : (edges : Edges) (modes l m : List ℕ) (residual : ℕ → ℕ → ℤ) → IsIntra4 edges modes residual l → IsIntra4 edges modes residual m
    → (block : ℕ) → block < 16 → SameBefore block l m → (x y : ℕ) → x < 16 → y < 16 → block_at (x / 4) (y / 4) ≡ block → sample_in_rows 16 l x y ≡ sample_in_rows 16 m x y
intra4_here edges modes l m residual of_l of_m block lt before x y across down e =
    let same : intra4_sample edges modes l x y ≡ intra4_sample edges modes m x y =
    intra4_is edges modes l x y block e ∙ (ap (λ s. from_sides (get_or modes block 0) s (x % 4) (y % 4)) (sides_same edges l m block lt before) ∙ sym (intra4_is edges modes m x y block e)) in
    of_l x y across down ∙ (ap (λ p. constructed p (residual x y)) same ∙ sym (of_m x y across down))

intra4_agree : (edges : Edges) (modes l m : List ℕ) (residual : ℕ → ℕ → ℤ) → IsIntra4 edges modes residual l → IsIntra4 edges modes residual m → (end : ℕ) → end ≤ 16 → SameBefore end l m
intra4_agree edges modes l m residual of_l of_m zero within = record { same = λ x y across down lt. absurd (omega arith) }
intra4_agree edges modes l m residual of_l of_m (suc end) within =
    let before : SameBefore end l m = intra4_agree edges modes l m residual of_l of_m end (omega arith) in
    record {
      same = λ x y across down lt. elim (cases_lt (block_at (x / 4) (y / 4)) end) [
        | inl less ↦ before.same x y across down less
        | inr le ↦ intra4_here edges modes l m residual of_l of_m end (omega arith) before x y across down (omega arith)
      ];
    }

-- the luma of a macroblock
abbrev IsLuma : Slice → ℕ → List Vector → Edges → MbKind → List ℕ → Type 0
IsLuma slice number vectors edges kind l = (x y : ℕ) → x < 16 → y < 16 → sample_in_rows 16 l x y ≡ luma_sample slice number vectors edges l kind x y

luma_agrees : (slice : Slice) (number : ℕ) (vectors : List Vector) (edges : Edges) (kind : MbKind) (l m : List ℕ) → IsLuma slice number vectors edges kind l → IsLuma slice number vectors edges kind m
    → (x y : ℕ) → x < 16 → y < 16 → sample_in_rows 16 l x y ≡ sample_in_rows 16 m x y
luma_agrees slice number vectors edges Skip l m of_l of_m x y across down = of_l x y across down ∙ sym (of_m x y across down)
luma_agrees slice number vectors edges (Pcm samples) l m of_l of_m x y across down = of_l x y across down ∙ sym (of_m x y across down)
luma_agrees slice number vectors edges (Intra4 modes chroma pattern) l m of_l of_m x y across down =
    (intra4_agree edges (modes_at slice number) l m (λ x y. luma_residual (macroblock slice number) (luma_qp_at slice number) x y) of_l of_m 16 (omega arith)).same x y across down (omega arith)
luma_agrees slice number vectors edges (Intra16 mode chroma pattern) l m of_l of_m x y across down = of_l x y across down ∙ sym (of_m x y across down)
luma_agrees slice number vectors edges (Whole part pattern) l m of_l of_m x y across down = of_l x y across down ∙ sym (of_m x y across down)
luma_agrees slice number vectors edges (Wide parts pattern) l m of_l of_m x y across down = of_l x y across down ∙ sym (of_m x y across down)
luma_agrees slice number vectors edges (Tall parts pattern) l m of_l of_m x y across down = of_l x y across down ∙ sym (of_m x y across down)
luma_agrees slice number vectors edges (Four subs pattern) l m of_l of_m x y across down = of_l x y across down ∙ sym (of_m x y across down)
luma_agrees slice number vectors edges (FourFirst subs pattern) l m of_l of_m x y across down = of_l x y across down ∙ sym (of_m x y across down)

-- lists of samples that agree in each column and row are the same
luma_list : (l m : List ℕ) → length l ≡ 256 → length m ≡ 256 → ((x y : ℕ) → x < 16 → y < 16 → sample_in_rows 16 l x y ≡ sample_in_rows 16 m x y) → l ≡ m
luma_list l m count other agree =
    ext_get_or 0 l m (count ∙ sym other)
    (λ i lt. let place : 16 * (i / 16) + i % 16 ≡ i = omega arith in subst (λ k. get_or l k 0 ≡ get_or m k 0) place (agree (i % 16) (i / 16) (omega arith) (omega arith)))

chroma_list : (l m : List ℕ) → length l ≡ 64 → length m ≡ 64 → ((x y : ℕ) → x < 8 → y < 8 → sample_in_rows 8 l x y ≡ sample_in_rows 8 m x y) → l ≡ m
chroma_list l m count other agree =
    ext_get_or 0 l m (count ∙ sym other)
    (λ i lt. let place : 8 * (i / 8) + i % 8 ≡ i = omega arith in subst (λ k. get_or l k 0 ≡ get_or m k 0) place (agree (i % 8) (i / 8) (omega arith) (omega arith)))

tile_made : List ℕ → List ℕ → List ℕ → Tile
tile_made y cb cr = record { y = y; cb = cb; cr = cr }

tile_fields : (a b c a' b' c' : List ℕ) → a ≡ a' → b ≡ b' → c ≡ c' → tile_made a b c ≡ tile_made a' b' c'
tile_fields a b c a' b' c' e f g = cc

tile_by_fields : (s t : Tile) → s.y ≡ t.y → s.cb ≡ t.cb → s.cr ≡ t.cr → s ≡ t
unfolding tile_made
tile_by_fields s t e f g = tile_fields s.y s.cb s.cr t.y t.cb t.cr e f g

tile_one : (slice : Slice) (number : ℕ) (vectors : List Vector) (tiles : List Tile) (s t : Tile) → IsWholeTile s → IsWholeTile t → IsTile slice number vectors tiles s → IsTile slice number vectors tiles t → s ≡ t
tile_one slice number vectors tiles s t whole other of_s of_t =
    tile_by_fields s t
    (luma_list s.y t.y whole.y other.y (luma_agrees slice number vectors (luma_edges tiles (usable_at slice number)) (kind_at slice number) s.y t.y of_s.y of_t.y))
    (chroma_list s.cb t.cb whole.cb other.cb (λ x y across down. of_s.cb x y across down ∙ sym (of_t.cb x y across down)))
    (chroma_list s.cr t.cr whole.cr other.cr (λ x y across down. of_s.cr x y across down ∙ sym (of_t.cr x y across down)))

-- marks
mark_made : ℕ → Bool → Bool → ℕ → ℕ → ℤ → ℤ → List Bool → List ℕ → List Vector → MbMark
mark_made slice intra pcm qp idc alpha beta coded pictures vectors =
    record { slice = slice; intra = intra; pcm = pcm; qp = qp; idc = idc; alpha = alpha; beta = beta; coded = coded; pictures = pictures; vectors = vectors }

mark_fields : (a d e a' d' e' : ℕ) (b c b' c' : Bool) (f g f' g' : ℤ) (h h' : List Bool) (i i' : List ℕ) (j j' : List Vector)
    → a ≡ a' → b ≡ b' → c ≡ c' → d ≡ d' → e ≡ e' → f ≡ f' → g ≡ g' → h ≡ h' → i ≡ i' → j ≡ j' → mark_made a b c d e f g h i j ≡ mark_made a' b' c' d' e' f' g' h' i' j'
mark_fields a d e a' d' e' b c b' c' f g f' g' h h' i i' j j' p q r s t u v w x y = cc

mark_one : (header : Header) (list : List (Option ℕ)) (mb : Macroblock) (qp : ℕ) (m n : MbMark) → IsWholeMark m → IsWholeMark n → IsMarkOf header list mb qp m → IsMarkOf header list mb qp n → m.vectors ≡ n.vectors → m ≡ n
unfolding mark_made
mark_one header list mb qp m n whole other of_m of_n vectors =
    mark_fields _ _ _ _ _ _ _ _ _ _ _ _ _ _ _ _ _ _ _ _
    (of_m.of_slice ∙ sym of_n.of_slice) (of_m.of_intra ∙ sym of_n.of_intra) (of_m.of_pcm ∙ sym of_n.of_pcm) (of_m.of_qp ∙ sym of_n.of_qp) (of_m.of_idc ∙ sym of_n.of_idc)
    (of_m.of_alpha ∙ sym of_n.of_alpha) (of_m.of_beta ∙ sym of_n.of_beta)
    (ext_get_or false m.coded n.coded (whole.coded ∙ sym other.coded) (λ block lt. let small : block < 16 = omega (arith, whole.coded) in of_m.of_coded block small ∙ sym (of_n.of_coded block small)))
    (ext_get_or 0 m.pictures n.pictures (whole.pictures ∙ sym other.pictures) (λ block lt. let small : block < 16 = omega (arith, whole.pictures) in of_m.of_pictures block small ∙ sym (of_n.of_pictures block small)))
    vectors

-- one macroblock, behind those that are the same
one_step : (slice : Slice) (m n : List MbMark) (s t : List Tile) (number : ℕ) → 1 ≤ slice.size.width → SameMarks number m n → SameTiles number s t
    → IsWholeMark (mark_at m number) → IsWholeMark (mark_at n number) → IsWholeTile (tile_at s number) → IsWholeTile (tile_at t number)
    → IsRebuilt slice m s number → IsRebuilt slice n t number → (mark_at m number ≡ mark_at n number) × (tile_at s number ≡ tile_at t number)
one_step slice m n s t number wide same_marks same_tiles whole_m whole_n whole_s whole_t of_m of_n =
    let kind : MbKind = kind_at slice number in
    let v : List Vector = (mark_at m number).vectors in
    let w : List Vector = (mark_at n number).vectors in
    let here : AreVectors (border_at slice m number) kind 16 w = subst (λ b. AreVectors b kind 16 w) (sym (border_at_kept slice m n number wide same_marks)) of_n.vectors in
    let vectors : v ≡ w = vectors_one (border_at slice m number) kind v w whole_m.vectors whole_n.vectors of_m.vectors here in
    let turned : SameTiles number t s = record { same = λ k lt. sym (same_tiles.same k lt) } in
    let tile : IsTile slice number v s (tile_at t number) = tile_kept slice number v t s (tile_at t number) wide turned (subst (λ u. IsTile slice number u t (tile_at t number)) (sym vectors) of_n.tile) in (
      mark_one slice.header slice.list (macroblock slice number) (luma_qp_at slice number) (mark_at m number) (mark_at n number) whole_m whole_n of_m.mark of_n.mark vectors,
      tile_one slice number v s (tile_at s number) (tile_at t number) whole_s whole_t of_m.tile tile,
    )

pub record AreSame (m n : List MbMark) (s t : List Tile) (count : ℕ) : Type 0 where
  pub of_marks : SameMarks count m n
  pub of_tiles : SameTiles count s t

pub one_solution : (slice : Slice) (count : ℕ) (m n : List MbMark) (s t : List Tile) → 1 ≤ slice.size.width → AreWhole m s count → AreWhole n t count → AreRebuilt slice m s count → AreRebuilt slice n t count → (end : ℕ) → end ≤ count → AreSame m n s t end
one_solution slice count m n s t wide whole other of_m of_n zero within = record { of_marks = record { same = λ k lt. absurd (omega arith) }; of_tiles = record { same = λ k lt. absurd (omega arith) } }
one_solution slice count m n s t wide whole other of_m of_n (suc end) within =
    let before : AreSame m n s t end = one_solution slice count m n s t wide whole other of_m of_n end (omega arith) in
    let lt : end < count = omega arith in
    let here = one_step slice m n s t end wide before.of_marks before.of_tiles (whole.of_marks end lt) (other.of_marks end lt) (whole.of_tiles end lt) (other.of_tiles end lt) (of_m end lt) (of_n end lt) in
    record {
      of_marks = record {
        same = λ k less. elim (cases_lt k end) [
          | inl earlier ↦ before.of_marks.same k earlier
          | inr le ↦ let same : end ≡ k = omega arith in subst (λ b. mark_at m b ≡ mark_at n b) same here.0
        ];
      };
      of_tiles = record {
        same = λ k less. elim (cases_lt k end) [
          | inl earlier ↦ before.of_tiles.same k earlier
          | inr le ↦ let same : end ≡ k = omega arith in subst (λ b. tile_at s b ≡ tile_at t b) same here.1
        ];
      };
    }
