-- The equations of a macroblock look at it and at earlier ones alone.
use Rattle.std.proofs.Common.{◌≡◌, ℕ, ◌<◌, ◌≤◌, List, [], ◌∷◌, Option, Some, None, refl, ap, ◌∙◌}
use Rattle.std.specs.Prelude.{option_map}
use Rattle.std.specs.Option.{ForSome}
use Rattle.cb_types.specs.Blocks.{block_at}
use Rattle.cb_types.specs.declared.macroblock.Macroblock.{Macroblock}
use Rattle.cb_types.specs.declared.macroblock.MbKind.{MbKind}
use Rattle.cb_types.specs.declared.macroblock.Vector.{Vector}
use Rattle.cb_types.specs.declared.mark.MbMark.{MbMark}
use Rattle.motion.specs.Around.{AreBefore}
use Rattle.motion.specs.Border.{border_of, macroblock_at, mark_at, near_in, near_of}
use Rattle.motion.specs.declared.around.Around.{Around}
use Rattle.motion.specs.declared.border.Border.{Border}
use Rattle.mv_pred.specs.declared.near.Near.{Near}
use Rattle.vd_plane.specs.Tiles.{tile_at, tile_cb, tile_cr, tile_y}
use Rattle.vd_plane.specs.declared.tile.Tile.{Tile}
use Rattle.recon.specs.Edges.{cb_edges, cr_edges, in_column, in_row, luma_edges}
use Rattle.recon.specs.Rebuilt.{IsTile, border_at, cb_sample, cr_sample, luma_sample, usable_at}
use Rattle.recon.specs.Slice.{Slice, kind_at, neighbours}
use Rattle.recon.specs.declared.edges.ChromaEdges.{ChromaEdges}
use Rattle.recon.specs.declared.edges.Edges.{Edges}
use Rattle.recon.proofs.AroundLemmas.{around_before, usable_before}

-- the same marks and the same tiles of the macroblocks before one
pub record SameMarks (end : ℕ) (marks others : List MbMark) : Type 0 where
  pub same : (number : ℕ) → number < end → mark_at marks number ≡ mark_at others number

pub record SameTiles (end : ℕ) (tiles others : List Tile) : Type 0 where
  pub same : (number : ℕ) → number < end → tile_at tiles number ≡ tile_at others number

-- the border

near_kept : (macroblocks : List Macroblock) (m n : List MbMark) (end : ℕ) (o : Option ℕ) (block : ℕ) → SameMarks end m n → ForSome o (λ k. k < end) → near_in macroblocks m o block ≡ near_in macroblocks n o block
near_kept macroblocks m n end None block same before = refl
near_kept macroblocks m n end (Some k) block same before = ap (λ (mark : MbMark). near_of (macroblock_at macroblocks k).kind mark.vectors block) (same.same k (before k refl))

border_made : Near → Near → Near → Near → Near → Near → Near → Near → Near → Near → Border
border_made a b c d e f g h right corner = record { left = a ∷ b ∷ c ∷ d ∷ []; above = e ∷ f ∷ g ∷ h ∷ []; right = right; corner = corner }

ten_same : (a b c d e f g h i j a' b' c' d' e' f' g' h' i' j' : Near) → a ≡ a' → b ≡ b' → c ≡ c' → d ≡ d' → e ≡ e' → f ≡ f' → g ≡ g' → h ≡ h' → i ≡ i' → j ≡ j'
    → border_made a b c d e f g h i j ≡ border_made a' b' c' d' e' f' g' h' i' j'
ten_same a b c d e f g h i j a' b' c' d' e' f' g' h' i' j' p q r s t u v w x y = cc

pub border_kept : (macroblocks : List Macroblock) (m n : List MbMark) (end : ℕ) (around : Around) → SameMarks end m n → AreBefore end around → border_of macroblocks m around ≡ border_of macroblocks n around
unfolding border_of border_made
border_kept macroblocks m n end around same before =
    let left = λ (block : ℕ). near_kept macroblocks m n end around.left block same before.left in
    let above = λ (block : ℕ). near_kept macroblocks m n end around.above block same before.above in
    ten_same _ _ _ _ _ _ _ _ _ _ _ _ _ _ _ _ _ _ _ _
    (left (block_at 3 0)) (left (block_at 3 1)) (left (block_at 3 2)) (left (block_at 3 3))
    (above (block_at 0 3)) (above (block_at 1 3)) (above (block_at 2 3)) (above (block_at 3 3))
    (near_kept macroblocks m n end around.above_right (block_at 0 3) same before.above_right)
    (near_kept macroblocks m n end around.above_left (block_at 3 3) same before.above_left)

-- the edges

side_kept : {A : Type 0} (f : Tile → A) (s t : List Tile) (end : ℕ) (o : Option ℕ) → SameTiles end s t → ForSome o (λ k. k < end) → option_map (λ k. f (tile_at s k)) o ≡ option_map (λ k. f (tile_at t k)) o
side_kept f s t end None same before = refl
side_kept f s t end (Some k) same before = ap (λ (tile : Tile). Some (f tile)) (same.same k (before k refl))

edges_made : Option (List ℕ) → Option (List ℕ) → Option (List ℕ) → Option ℕ → Edges
edges_made left top right corner = record { left = left; top = top; right = right; corner = corner }

four_same : (a b c a' b' c' : Option (List ℕ)) (d d' : Option ℕ) → a ≡ a' → b ≡ b' → c ≡ c' → d ≡ d' → edges_made a b c d ≡ edges_made a' b' c' d'
four_same a b c a' b' c' d d' e f g h = cc

chroma_made : Option (List ℕ) → Option (List ℕ) → Option ℕ → ChromaEdges
chroma_made left top corner = record { left = left; top = top; corner = corner }

three_same : (a b a' b' : Option (List ℕ)) (c c' : Option ℕ) → a ≡ a' → b ≡ b' → c ≡ c' → chroma_made a b c ≡ chroma_made a' b' c'
three_same a b a' b' c c' e f g = cc

pub luma_edges_kept : (s t : List Tile) (end : ℕ) (around : Around) → SameTiles end s t → AreBefore end around → luma_edges s around ≡ luma_edges t around
unfolding luma_edges edges_made
luma_edges_kept s t end around same before =
    four_same _ _ _ _ _ _ _ _
    (side_kept (λ (tile : Tile). in_column (tile_y tile) 15 16) s t end around.left same before.left)
    (side_kept (λ (tile : Tile). in_row (tile_y tile) 15 16) s t end around.above same before.above)
    (side_kept (λ (tile : Tile). in_row (tile_y tile) 15 4) s t end around.above_right same before.above_right)
    (side_kept (λ (tile : Tile). tile_y tile 15 15) s t end around.above_left same before.above_left)

pub cb_edges_kept : (s t : List Tile) (end : ℕ) (around : Around) → SameTiles end s t → AreBefore end around → cb_edges s around ≡ cb_edges t around
unfolding cb_edges chroma_made
cb_edges_kept s t end around same before =
    three_same _ _ _ _ _ _
    (side_kept (λ (tile : Tile). in_column (tile_cb tile) 7 8) s t end around.left same before.left)
    (side_kept (λ (tile : Tile). in_row (tile_cb tile) 7 8) s t end around.above same before.above)
    (side_kept (λ (tile : Tile). tile_cb tile 7 7) s t end around.above_left same before.above_left)

pub cr_edges_kept : (s t : List Tile) (end : ℕ) (around : Around) → SameTiles end s t → AreBefore end around → cr_edges s around ≡ cr_edges t around
unfolding cr_edges chroma_made
cr_edges_kept s t end around same before =
    three_same _ _ _ _ _ _
    (side_kept (λ (tile : Tile). in_column (tile_cr tile) 7 8) s t end around.left same before.left)
    (side_kept (λ (tile : Tile). in_row (tile_cr tile) 7 8) s t end around.above same before.above)
    (side_kept (λ (tile : Tile). tile_cr tile 7 7) s t end around.above_left same before.above_left)

pub usable_at_before : (slice : Slice) (number : ℕ) → 1 ≤ slice.size.width → AreBefore number (usable_at slice number)
usable_at_before slice number wide =
    usable_before slice.info.constrained_intra_pred_flag slice.macroblocks number (neighbours slice number) (around_before slice.header.first_mb slice.size.width number wide)

pub tile_kept : (slice : Slice) (number : ℕ) (vectors : List Vector) (s t : List Tile) (tile : Tile) → 1 ≤ slice.size.width → SameTiles number s t → IsTile slice number vectors s tile → IsTile slice number vectors t tile
tile_kept slice number vectors s t tile wide same is =
    let around : Around = usable_at slice number in
    let before : AreBefore number around = usable_at_before slice number wide in
    let kind : MbKind = kind_at slice number in
    record {
      y = λ x y across down. is.y x y across down ∙ ap (λ e. luma_sample slice number vectors e tile.y kind x y) (luma_edges_kept s t number around same before);
      cb = λ x y across down. is.cb x y across down ∙ ap (λ e. cb_sample slice number vectors e kind x y) (cb_edges_kept s t number around same before);
      cr = λ x y across down. is.cr x y across down ∙ ap (λ e. cr_sample slice number vectors e kind x y) (cr_edges_kept s t number around same before);
    }

pub border_at_kept : (slice : Slice) (m n : List MbMark) (number : ℕ) → 1 ≤ slice.size.width → SameMarks number m n → border_at slice m number ≡ border_at slice n number
border_at_kept slice m n number wide same =
    border_kept slice.macroblocks m n number (neighbours slice number) same (around_before slice.header.first_mb slice.size.width number wide)
