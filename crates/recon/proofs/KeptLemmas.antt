-- A write behind a macroblock keeps its equations: they look at earlier macroblocks alone.
use Rattle.std.proofs.Common.{◌≡◌, ℕ, ◌+◌, ◌<◌, ◌≤◌, true, List, length, set, Option, Some, None, inl, inr, refl, sym, ap, subst, arith}
use Rattle.std.specs.Option.{ForSome, option_map}
use Rattle.std.proofs.lemmas.Bool.{cases_eq, cases_lt}
use Rattle.std.proofs.lemmas.List.{get_or-set_same, get_or-set_other}
use Rattle.cb_types.specs.declared.macroblock.Macroblock.{Macroblock}
use Rattle.cb_types.specs.declared.macroblock.MbKind.{MbKind}
use Rattle.cb_types.specs.declared.macroblock.MbKind.TheVariants.{Skip, Pcm, Intra4, Intra16, Whole, Wide, Tall, Four, FourFirst}
use Rattle.cb_types.specs.declared.mark.MbMark.{MbMark}
use Rattle.motion.specs.Around.{AreBefore}
use Rattle.motion.specs.Border.{border_of, macroblock_at, mark_at, near_in, near_of, no_mark}
use Rattle.motion.specs.Vectors.{AreVectors}
use Rattle.motion.specs.declared.around.Around.{Around}
use Rattle.motion.specs.declared.border.Border.{Border}
use Rattle.vd_plane.specs.Tiles.{tile_at, tile_cb, tile_cr, tile_y}
use Rattle.vd_plane.specs.declared.tile.Tile.{Tile}
use Rattle.recon.specs.Edges.{cb_edges, cr_edges, in_column, in_row, luma_edges}
use Rattle.recon.specs.Intra.{has_chroma_edges, has_edges, has_sides}
use Rattle.recon.specs.Laws.{AreWhole, IsWholeMark, IsWholeTile}
use Rattle.recon.specs.Marks.{IsMarkOf}
use Rattle.recon.specs.Rebuilt.{AreRebuilt, HasPictures, HasSamples, IsRebuilt, IsTile, border_at, cb_sample, cr_sample, luma_qp_at, luma_sample, modes_at, usable_at}
use Rattle.recon.specs.Slice.{Slice, kind_at, macroblock, neighbours}
use Rattle.recon.specs.declared.edges.ChromaEdges.{ChromaEdges}
use Rattle.recon.specs.declared.edges.Edges.{Edges}
use Rattle.recon.proofs.AroundLemmas.{around_before, usable_before}

near_kept : (macroblocks : List Macroblock) (m n : List MbMark) (end block : ℕ) (o : Option ℕ) → ((k : ℕ) → k < end → mark_at m k ≡ mark_at n k) → ForSome o (λ k. k < end) → near_in macroblocks m o block ≡ near_in macroblocks n o block
near_kept macroblocks m n end block None same before = refl
near_kept macroblocks m n end block (Some k) same before = ap (λ (mark : MbMark). near_of (macroblock_at macroblocks k).kind mark.vectors block) (same k (before k refl))

pub border_kept : (macroblocks : List Macroblock) (m n : List MbMark) (end : ℕ) (around : Around) → ((k : ℕ) → k < end → mark_at m k ≡ mark_at n k) → AreBefore end around → border_of macroblocks m around ≡ border_of macroblocks n around
unfolding border_of
border_kept macroblocks m n end around same before =
    let a = near_kept macroblocks m n end 5 around.left same before.left in
    let b = near_kept macroblocks m n end 7 around.left same before.left in
    let c = near_kept macroblocks m n end 13 around.left same before.left in
    let d = near_kept macroblocks m n end 15 around.left same before.left in
    let e = near_kept macroblocks m n end 10 around.above same before.above in
    let f = near_kept macroblocks m n end 11 around.above same before.above in
    let g = near_kept macroblocks m n end 14 around.above same before.above in
    let h = near_kept macroblocks m n end 15 around.above same before.above in
    let i = near_kept macroblocks m n end 10 around.above_right same before.above_right in
    let j = near_kept macroblocks m n end 15 around.above_left same before.above_left in
    cc

mapped_kept : {A : Type 0} (f : Tile → A) (s t : List Tile) (end : ℕ) (o : Option ℕ) → ((k : ℕ) → k < end → tile_at s k ≡ tile_at t k) → ForSome o (λ k. k < end) → option_map (λ k. f (tile_at s k)) o ≡ option_map (λ k. f (tile_at t k)) o
mapped_kept f s t end None same before = refl
mapped_kept f s t end (Some k) same before = ap (λ u. Some (f u)) (same k (before k refl))

luma_kept : (s t : List Tile) (end : ℕ) (around : Around) → ((k : ℕ) → k < end → tile_at s k ≡ tile_at t k) → AreBefore end around → luma_edges s around ≡ luma_edges t around
unfolding luma_edges
luma_kept s t end around same before =
    let a = mapped_kept (λ u. in_column (tile_y u) 15 16) s t end around.left same before.left in
    let b = mapped_kept (λ u. in_row (tile_y u) 15 16) s t end around.above same before.above in
    let c = mapped_kept (λ u. in_row (tile_y u) 15 4) s t end around.above_right same before.above_right in
    let d = mapped_kept (λ u. tile_y u 15 15) s t end around.above_left same before.above_left in
    cc

cb_kept : (s t : List Tile) (end : ℕ) (around : Around) → ((k : ℕ) → k < end → tile_at s k ≡ tile_at t k) → AreBefore end around → cb_edges s around ≡ cb_edges t around
unfolding cb_edges
cb_kept s t end around same before =
    let a = mapped_kept (λ u. in_column (tile_cb u) 7 8) s t end around.left same before.left in
    let b = mapped_kept (λ u. in_row (tile_cb u) 7 8) s t end around.above same before.above in
    let d = mapped_kept (λ u. tile_cb u 7 7) s t end around.above_left same before.above_left in
    cc

cr_kept : (s t : List Tile) (end : ℕ) (around : Around) → ((k : ℕ) → k < end → tile_at s k ≡ tile_at t k) → AreBefore end around → cr_edges s around ≡ cr_edges t around
unfolding cr_edges
cr_kept s t end around same before =
    let a = mapped_kept (λ u. in_column (tile_cr u) 7 8) s t end around.left same before.left in
    let b = mapped_kept (λ u. in_row (tile_cr u) 7 8) s t end around.above same before.above in
    let d = mapped_kept (λ u. tile_cr u 7 7) s t end around.above_left same before.above_left in
    cc

-- the samples that the modes of a macroblock need, by its edges
abbrev HasWith : Slice → ℕ → Edges → ChromaEdges → MbKind → Type 0
HasWith slice number edges cb (Intra4 modes chroma pattern) = ((block : ℕ) → block < 16 → has_sides edges (modes_at slice number) block ≡ true) × (has_chroma_edges cb chroma ≡ true)
HasWith slice number edges cb (Intra16 mode chroma pattern) = (has_edges edges mode ≡ true) × (has_chroma_edges cb chroma ≡ true)
HasWith slice number edges cb kind = Unit {0}

has_to : (slice : Slice) (number : ℕ) (tiles : List Tile) (kind : MbKind) → HasSamples slice number tiles kind → HasWith slice number (luma_edges tiles (usable_at slice number)) (cb_edges tiles (usable_at slice number)) kind
has_to slice number tiles Skip h = h
has_to slice number tiles (Pcm samples) h = h
has_to slice number tiles (Intra4 modes chroma pattern) h = h
has_to slice number tiles (Intra16 mode chroma pattern) h = h
has_to slice number tiles (Whole part pattern) h = h
has_to slice number tiles (Wide parts pattern) h = h
has_to slice number tiles (Tall parts pattern) h = h
has_to slice number tiles (Four subs pattern) h = h
has_to slice number tiles (FourFirst subs pattern) h = h

has_from : (slice : Slice) (number : ℕ) (tiles : List Tile) (kind : MbKind) → HasWith slice number (luma_edges tiles (usable_at slice number)) (cb_edges tiles (usable_at slice number)) kind → HasSamples slice number tiles kind
has_from slice number tiles Skip h = h
has_from slice number tiles (Pcm samples) h = h
has_from slice number tiles (Intra4 modes chroma pattern) h = h
has_from slice number tiles (Intra16 mode chroma pattern) h = h
has_from slice number tiles (Whole part pattern) h = h
has_from slice number tiles (Wide parts pattern) h = h
has_from slice number tiles (Tall parts pattern) h = h
has_from slice number tiles (Four subs pattern) h = h
has_from slice number tiles (FourFirst subs pattern) h = h

-- they are there where earlier tiles are the same
pub has_kept : (slice : Slice) (number : ℕ) (tiles tiles' : List Tile) → 1 ≤ slice.size.width → ((k : ℕ) → k < number → tile_at tiles k ≡ tile_at tiles' k)
    → HasSamples slice number tiles (kind_at slice number) → HasSamples slice number tiles' (kind_at slice number)
has_kept slice number tiles tiles' some same has =
    let kind : MbKind = kind_at slice number in
    let around : Around = neighbours slice number in
    let u : Around = usable_at slice number in
    let before : AreBefore number u = usable_before slice.info.constrained_intra_pred_flag slice.macroblocks number around (around_before slice.header.first_mb slice.size.width number some) in
    has_from slice number tiles' kind
    (subst (λ (c : ChromaEdges). HasWith slice number (luma_edges tiles' u) c kind) (cb_kept tiles tiles' number u same before)
    (subst (λ (e : Edges). HasWith slice number e (cb_edges tiles u) kind) (luma_kept tiles tiles' number u same before) (has_to slice number tiles kind has)))

-- a macroblock's equations, for a mark and a tile that aren't written yet
pub record IsNew (slice : Slice) (marks : List MbMark) (tiles : List Tile) (number : ℕ) (mark : MbMark) (tile : Tile) : Type 0 where
  pub of_mark : IsMarkOf slice.header slice.list (macroblock slice number) (luma_qp_at slice number) mark
  pub vectors : AreVectors (border_at slice marks number) (kind_at slice number) 16 mark.vectors
  pub pictures : HasPictures slice (kind_at slice number)
  pub samples : HasSamples slice number tiles (kind_at slice number)
  pub of_tile : IsTile slice number mark.vectors tiles tile

-- they hold where earlier marks and tiles are the same, and these are written
written : (slice : Slice) (marks marks' : List MbMark) (tiles tiles' : List Tile) (number : ℕ) (mark : MbMark) (tile : Tile) → 1 ≤ slice.size.width
    → ((k : ℕ) → k < number → mark_at marks k ≡ mark_at marks' k) → ((k : ℕ) → k < number → tile_at tiles k ≡ tile_at tiles' k)
    → mark ≡ mark_at marks' number → tile ≡ tile_at tiles' number
    → IsNew slice marks tiles number mark tile → IsRebuilt slice marks' tiles' number
written slice marks marks' tiles tiles' number mark tile some same_marks same_tiles is_mark is_tile new =
    let kind : MbKind = kind_at slice number in
    let around : Around = neighbours slice number in
    let u : Around = usable_at slice number in
    let before : AreBefore number around = around_before slice.header.first_mb slice.size.width number some in
    let u_before : AreBefore number u = usable_before slice.info.constrained_intra_pred_flag slice.macroblocks number around before in
    let border : border_at slice marks number ≡ border_at slice marks' number = border_kept slice.macroblocks marks marks' number around same_marks before in
    let edges : luma_edges tiles u ≡ luma_edges tiles' u = luma_kept tiles tiles' number u same_tiles u_before in
    let cb : cb_edges tiles u ≡ cb_edges tiles' u = cb_kept tiles tiles' number u same_tiles u_before in
    let cr : cr_edges tiles u ≡ cr_edges tiles' u = cr_kept tiles tiles' number u same_tiles u_before in
    let Y : Edges → MbMark → Tile → Type 0 = λ e m t. (x y : ℕ) → x < 16 → y < 16 → tile_y t x y ≡ luma_sample slice number m.vectors e t.y kind x y in
    let B : ChromaEdges → MbMark → Tile → Type 0 = λ e m t. (x y : ℕ) → x < 8 → y < 8 → tile_cb t x y ≡ cb_sample slice number m.vectors e kind x y in
    let R : ChromaEdges → MbMark → Tile → Type 0 = λ e m t. (x y : ℕ) → x < 8 → y < 8 → tile_cr t x y ≡ cr_sample slice number m.vectors e kind x y in
    record {
      mark = subst (IsMarkOf slice.header slice.list (macroblock slice number) (luma_qp_at slice number)) is_mark new.of_mark;
      vectors = subst (λ (b : Border). AreVectors b kind 16 (mark_at marks' number).vectors) border (subst (λ (m : MbMark). AreVectors (border_at slice marks number) kind 16 m.vectors) is_mark new.vectors);
      pictures = new.pictures;
      samples = has_from slice number tiles' kind
          (subst (λ (c : ChromaEdges). HasWith slice number (luma_edges tiles' u) c kind) cb
          (subst (λ (e : Edges). HasWith slice number e (cb_edges tiles u) kind) edges (has_to slice number tiles kind new.samples)));
      tile = record {
        y = subst (λ (t : Tile). Y (luma_edges tiles' u) (mark_at marks' number) t) is_tile (subst (λ (m : MbMark). Y (luma_edges tiles' u) m tile) is_mark (subst (λ (e : Edges). Y e mark tile) edges new.of_tile.y));
        cb = subst (λ (t : Tile). B (cb_edges tiles' u) (mark_at marks' number) t) is_tile (subst (λ (m : MbMark). B (cb_edges tiles' u) m tile) is_mark (subst (λ (e : ChromaEdges). B e mark tile) cb new.of_tile.cb));
        cr = subst (λ (t : Tile). R (cr_edges tiles' u) (mark_at marks' number) t) is_tile (subst (λ (m : MbMark). R (cr_edges tiles' u) m tile) is_mark (subst (λ (e : ChromaEdges). R e mark tile) cr new.of_tile.cr));
      };
    }

pub mark_beside : (marks : List MbMark) (n k : ℕ) (mark : MbMark) → (k ≡ n → ⊥) → mark_at marks k ≡ mark_at (set marks n mark) k
mark_beside marks n k mark ne = sym (get_or-set_other marks n k mark no_mark ne)

pub tile_beside : (tiles : List Tile) (n k : ℕ) (tile : Tile) → (k ≡ n → ⊥) → tile_at tiles k ≡ tile_at (set tiles n tile) k
tile_beside tiles n k tile ne = sym (get_or-set_other tiles n k tile _ ne)

-- one more macroblock is constructed
pub rebuilt_more : (slice : Slice) (marks : List MbMark) (tiles : List Tile) (n : ℕ) (mark : MbMark) (tile : Tile) → 1 ≤ slice.size.width → n < length marks → n < length tiles
    → AreRebuilt slice marks tiles n → IsNew slice marks tiles n mark tile → AreRebuilt slice (set marks n mark) (set tiles n tile) (n + 1)
rebuilt_more slice marks tiles n mark tile some room room' before new k within = elim (cases_lt k n) [
  | inl less ↦
      let old = before k less in
      written slice marks (set marks n mark) tiles (set tiles n tile) k (mark_at marks k) (tile_at tiles k) some
      (λ j lt. mark_beside marks n j mark (λ e. omega arith)) (λ j lt. tile_beside tiles n j tile (λ e. omega arith))
      (mark_beside marks n k mark (λ e. omega arith)) (tile_beside tiles n k tile (λ e. omega arith))
      (record { of_mark = old.mark; vectors = old.vectors; pictures = old.pictures; samples = old.samples; of_tile = old.tile })
  | inr le ↦
      let same : n ≡ k = omega arith in
      subst (λ m. IsRebuilt slice (set marks n mark) (set tiles n tile) m) same
      (written slice marks (set marks n mark) tiles (set tiles n tile) n mark tile some
      (λ j lt. mark_beside marks n j mark (λ e. omega arith)) (λ j lt. tile_beside tiles n j tile (λ e. omega arith))
      (sym (get_or-set_same marks n mark no_mark room)) (sym (get_or-set_same tiles n tile _ room'))
      new)
]

-- so do those of all its macroblocks, where they are the same
pub rebuilt_kept : (slice : Slice) (marks marks' : List MbMark) (tiles tiles' : List Tile) (count : ℕ) → 1 ≤ slice.size.width
    → ((k : ℕ) → k < count → mark_at marks k ≡ mark_at marks' k) → ((k : ℕ) → k < count → tile_at tiles k ≡ tile_at tiles' k)
    → AreRebuilt slice marks tiles count → AreRebuilt slice marks' tiles' count
rebuilt_kept slice marks marks' tiles tiles' count some same_marks same_tiles are k lt =
    let old = are k lt in
    written slice marks marks' tiles tiles' k (mark_at marks k) (tile_at tiles k) some
    (λ j less. same_marks j (omega arith)) (λ j less. same_tiles j (omega arith))
    (same_marks k lt) (same_tiles k lt)
    (record { of_mark = old.mark; vectors = old.vectors; pictures = old.pictures; samples = old.samples; of_tile = old.tile })

-- a write of a whole mark and a whole tile leaves them whole
pub whole_set : (marks : List MbMark) (tiles : List Tile) (count n : ℕ) (mark : MbMark) (tile : Tile) → n < length marks → n < length tiles → IsWholeMark mark → IsWholeTile tile
    → AreWhole marks tiles count → AreWhole (set marks n mark) (set tiles n tile) count
whole_set marks tiles count n mark tile room room' of_mark of_tile before = record {
  of_marks = λ k lt. elim (cases_eq k n) [
    | inl same ↦ subst (λ j. IsWholeMark (mark_at (set marks n mark) j)) (sym same) (subst IsWholeMark (sym (get_or-set_same marks n mark no_mark room)) of_mark)
    | inr other ↦ subst IsWholeMark (mark_beside marks n k mark other) (before.of_marks k lt)
  ];
  of_tiles = λ k lt. elim (cases_eq k n) [
    | inl same ↦ subst (λ j. IsWholeTile (tile_at (set tiles n tile) j)) (sym same) (subst IsWholeTile (sym (get_or-set_same tiles n tile _ room')) of_tile)
    | inr other ↦ subst IsWholeTile (tile_beside tiles n k tile other) (before.of_tiles k lt)
  ];
}
