-- The equations of a macroblock's samples, by its kind.
use Rattle.std.proofs.Common.{◌≡◌, ℕ, ◌+◌, ◌*◌, ◌/◌, ◌%◌, ◌<◌, Bool, true, false, ◌⊎◌, inl, inr, List, [], ◌∷◌, Option, Some, None, refl, sym, ap, ◌∙◌, subst}
use Rattle.std.specs.Prelude.{MatchOption, is_some, slice_index}
use Rattle.std.specs.Option.{option_map}
use Rattle.std.proofs.lemmas.Bool.{false≢true}
use Rattle.cb_types.specs.Blocks.{block_at}
use Rattle.cb_types.specs.declared.macroblock.MbKind.{MbKind}
use Rattle.cb_types.specs.declared.macroblock.MbKind.TheVariants.{Skip, Pcm, Intra4, Intra16, Whole, Wide, Tall, Four, FourFirst}
use Rattle.cb_types.specs.declared.macroblock.Mode.{Mode}
use Rattle.cb_types.specs.declared.macroblock.Vector.{Vector}
use Rattle.int_transform.specs.Residual.{residual_at}
use Rattle.intra_pred.specs.Available.{is_available}
use Rattle.motion.specs.Kinds.{is_intra}
use Rattle.motion.specs.declared.around.Around.{Around}
use Rattle.vd_plane.specs.Tiles.{sample_in_rows, tile_cb, tile_cr, tile_y}
use Rattle.vd_plane.specs.declared.tile.Tile.{Tile}
use Rattle.recon.specs.Edges.{cb_edges, cr_edges, luma_edges}
use Rattle.recon.specs.Inter.{inter_cb, inter_cr, inter_luma}
use Rattle.recon.specs.Intra.{has_chroma_edges, has_edges, has_sides, intra16_sample, intra4_sample}
use Rattle.recon.specs.IntraTiles.{IsIntraChroma}
use Rattle.recon.specs.Rebuilt.{HasPictures, HasSamples, IsTile, LacksPicture, LacksSamples, cb_sample, chroma_qp_at, cr_sample, luma_qp_at, luma_sample, modes_at, usable_at}
use Rattle.recon.specs.Residuals.{block_residual, chroma_of, chroma_residual, constructed, dc_of, levels_at, luma_dc_of, luma_residual}
use Rattle.recon.specs.Slice.{Slice, kind_at, macroblock}
use Rattle.recon.specs.declared.edges.Edges.{Edges}

-- both chroma arrays have the same edges
there_alike : {A B : Type 0} (f g : A → B) (o : Option A) → is_some (option_map f o) ≡ is_some (option_map g o)
there_alike f g None = refl
there_alike f g (Some x) = refl

three : (f : Bool → Bool → Bool → Bool) (a b c a' b' c' : Bool) → a ≡ a' → b ≡ b' → c ≡ c' → f a b c ≡ f a' b' c'
three f a b c a' b' c' e g h = cc

pub chroma_alike : (tiles : List Tile) (around : Around) (mode : ℕ) → has_chroma_edges (cb_edges tiles around) mode ≡ has_chroma_edges (cr_edges tiles around) mode
unfolding cb_edges cr_edges
chroma_alike tiles around mode = three (is_available 4 (1 ∷ 3 ∷ []) (2 ∷ 3 ∷ []) (3 ∷ []) mode) _ _ _ _ _ _ (there_alike _ _ around.left) (there_alike _ _ around.above) (there_alike _ _ around.above_left)

-- the equations for a macroblock of this kind
pub record IsTileFor (slice : Slice) (number : ℕ) (vectors : List Vector) (tiles : List Tile) (tile : Tile) (kind : MbKind) : Type 0 where
  pub pictures : HasPictures slice kind
  pub samples : HasSamples slice number tiles kind
  pub y : (x y : ℕ) → x < 16 → y < 16 → tile_y tile x y ≡ luma_sample slice number vectors (luma_edges tiles (usable_at slice number)) tile.y kind x y
  pub cb : (x y : ℕ) → x < 8 → y < 8 → tile_cb tile x y ≡ cb_sample slice number vectors (cb_edges tiles (usable_at slice number)) kind x y
  pub cr : (x y : ℕ) → x < 8 → y < 8 → tile_cr tile x y ≡ cr_sample slice number vectors (cr_edges tiles (usable_at slice number)) kind x y

pub whole_tile : (slice : Slice) (number : ℕ) (vectors : List Vector) (tiles : List Tile) (tile : Tile) (kind : MbKind) → kind_at slice number ≡ kind → IsTileFor slice number vectors tiles tile kind
    → HasPictures slice (kind_at slice number) × HasSamples slice number tiles (kind_at slice number) × IsTile slice number vectors tiles tile
whole_tile slice number vectors tiles tile kind is for =
    let here : IsTileFor slice number vectors tiles tile (kind_at slice number) = subst (IsTileFor slice number vectors tiles tile) (sym is) for in
    (here.pictures, here.samples, record { y = here.y; cb = here.cb; cr = here.cr })

pub pcm_tile : (slice : Slice) (number : ℕ) (vectors : List Vector) (tiles : List Tile) (tile : Tile) (samples : List ℕ)
    → ((x y : ℕ) → x < 16 → y < 16 → tile_y tile x y ≡ slice_index samples (16 * y + x))
    → ((x y : ℕ) → x < 8 → y < 8 → tile_cb tile x y ≡ slice_index samples (256 + 8 * y + x))
    → ((x y : ℕ) → x < 8 → y < 8 → tile_cr tile x y ≡ slice_index samples (320 + 8 * y + x))
    → IsTileFor slice number vectors tiles tile (Pcm samples)
pcm_tile slice number vectors tiles tile samples y cb cr =
    record { pictures = λ e. absurd (false≢true (sym e)); samples = tt; y = y; cb = cb; cr = cr }

-- a macroblock of Intra4x4 has no DC values apart
plain_residual : (slice : Slice) (number qp x y : ℕ) (modes : List Mode) (chroma pattern : ℕ) → kind_at slice number ≡ Intra4 modes chroma pattern → block_residual (macroblock slice number).luma qp x y ≡ luma_residual (macroblock slice number) qp x y
plain_residual slice number qp x y modes chroma pattern is =
    ap (λ k. residual_at (levels_at (macroblock slice number).luma (block_at (x / 4) (y / 4))) (luma_dc_of k (macroblock slice number).luma_dc qp (x / 4) (y / 4)) qp (y % 4) (x % 4)) (sym is)

pub intra4_tile : (slice : Slice) (number : ℕ) (vectors : List Vector) (tiles : List Tile) (tile : Tile) (modes : List Mode) (chroma pattern : ℕ) → kind_at slice number ≡ Intra4 modes chroma pattern
    → ((block : ℕ) → block < 16 → has_sides (luma_edges tiles (usable_at slice number)) (modes_at slice number) block ≡ true)
    → ((x y : ℕ) → x < 16 → y < 16 → tile_y tile x y ≡ constructed (intra4_sample (luma_edges tiles (usable_at slice number)) (modes_at slice number) tile.y x y) (block_residual (macroblock slice number).luma (luma_qp_at slice number) x y))
    → IsIntraChroma (macroblock slice number) tiles (usable_at slice number) (chroma_qp_at slice number) chroma tile
    → IsTileFor slice number vectors tiles tile (Intra4 modes chroma pattern)
intra4_tile slice number vectors tiles tile modes chroma pattern is sides y both =
    record {
      pictures = λ e. absurd (false≢true (sym e));
      samples = (sides, both.available);
      y = λ a b across down. y a b across down ∙ ap (constructed (intra4_sample (luma_edges tiles (usable_at slice number)) (modes_at slice number) tile.y a b)) (plain_residual slice number (luma_qp_at slice number) a b modes chroma pattern is);
      cb = both.cb;
      cr = both.cr;
    }

pub intra16_tile : (slice : Slice) (number : ℕ) (vectors : List Vector) (tiles : List Tile) (tile : Tile) (mode chroma pattern : ℕ)
    → has_edges (luma_edges tiles (usable_at slice number)) mode ≡ true
    → ((x y : ℕ) → x < 16 → y < 16 → tile_y tile x y ≡ constructed (intra16_sample (luma_edges tiles (usable_at slice number)) mode x y) (luma_residual (macroblock slice number) (luma_qp_at slice number) x y))
    → IsIntraChroma (macroblock slice number) tiles (usable_at slice number) (chroma_qp_at slice number) chroma tile
    → IsTileFor slice number vectors tiles tile (Intra16 mode chroma pattern)
intra16_tile slice number vectors tiles tile mode chroma pattern edges y both =
    record { pictures = λ e. absurd (false≢true (sym e)); samples = (edges, both.available); y = y; cb = both.cb; cr = both.cr }

-- the equations of an inter macroblock
pub record IsInterTile (slice : Slice) (number : ℕ) (vectors : List Vector) (tile : Tile) : Type 0 where
  pub y : (x y : ℕ) → x < 16 → y < 16 → tile_y tile x y ≡ constructed (inter_luma slice number vectors x y) (luma_residual (macroblock slice number) (luma_qp_at slice number) x y)
  pub cb : (x y : ℕ) → x < 8 → y < 8 → tile_cb tile x y ≡ constructed (inter_cb slice number vectors x y) (chroma_residual (dc_of (macroblock slice number) 0) (chroma_of (macroblock slice number) 0) (chroma_qp_at slice number) x y)
  pub cr : (x y : ℕ) → x < 8 → y < 8 → tile_cr tile x y ≡ constructed (inter_cr slice number vectors x y) (chroma_residual (dc_of (macroblock slice number) 1) (chroma_of (macroblock slice number) 1) (chroma_qp_at slice number) x y)

pub inter_tile : (slice : Slice) (number : ℕ) (vectors : List Vector) (tiles : List Tile) (tile : Tile) (kind : MbKind) → is_intra kind ≡ false → HasPictures slice kind → IsInterTile slice number vectors tile → IsTileFor slice number vectors tiles tile kind
inter_tile slice number vectors tiles tile Skip inter held is = record { pictures = held; samples = tt; y = is.y; cb = is.cb; cr = is.cr }
inter_tile slice number vectors tiles tile (Pcm samples) inter held is = absurd (false≢true (sym inter))
inter_tile slice number vectors tiles tile (Intra4 modes chroma pattern) inter held is = absurd (false≢true (sym inter))
inter_tile slice number vectors tiles tile (Intra16 mode chroma pattern) inter held is = absurd (false≢true (sym inter))
inter_tile slice number vectors tiles tile (Whole part pattern) inter held is = record { pictures = held; samples = tt; y = is.y; cb = is.cb; cr = is.cr }
inter_tile slice number vectors tiles tile (Wide parts pattern) inter held is = record { pictures = held; samples = tt; y = is.y; cb = is.cb; cr = is.cr }
inter_tile slice number vectors tiles tile (Tall parts pattern) inter held is = record { pictures = held; samples = tt; y = is.y; cb = is.cb; cr = is.cr }
inter_tile slice number vectors tiles tile (Four subs pattern) inter held is = record { pictures = held; samples = tt; y = is.y; cb = is.cb; cr = is.cr }
inter_tile slice number vectors tiles tile (FourFirst subs pattern) inter held is = record { pictures = held; samples = tt; y = is.y; cb = is.cb; cr = is.cr }

-- a case of an option, from another
pub mapped : {T : Type 0} (o : Option T) (P Q : Type 0) (R S : T → Type 0) → (P → Q) → ((x : T) → R x → S x) → MatchOption o P R → MatchOption o Q S
mapped None P Q R S f g h = f h
mapped (Some x) P Q R S f g h = g x h

-- what the construction of a macroblock answers
abbrev pub Answers : Slice → ℕ → List Vector → List Tile → Option Tile → Type 0
Answers slice number vectors tiles result = MatchOption result
    (LacksPicture slice (kind_at slice number) ⊎ LacksSamples slice number tiles (kind_at slice number))
    (λ tile. HasPictures slice (kind_at slice number) × HasSamples slice number tiles (kind_at slice number) × IsTile slice number vectors tiles tile)

lacks : (slice : Slice) (number : ℕ) (tiles : List Tile) (kind : MbKind) → kind_at slice number ≡ kind → LacksSamples slice number tiles kind
    → LacksPicture slice (kind_at slice number) ⊎ LacksSamples slice number tiles (kind_at slice number)
lacks slice number tiles kind is h = inr (subst (LacksSamples slice number tiles) (sym is) h)

-- the luma of an Intra4x4 macroblock
abbrev pub IsLuma4 : Slice → ℕ → List ℕ → Edges → List ℕ → ℕ → Type 0
IsLuma4 slice number y edges modes qp =
    ((block : ℕ) → block < 16 → has_sides edges modes block ≡ true)
    × ((a b : ℕ) → a < 16 → b < 16 → sample_in_rows 16 y a b ≡ constructed (intra4_sample edges modes y a b) (block_residual (macroblock slice number).luma qp a b))

-- and of an Intra16x16 one
abbrev pub IsLuma16 : Slice → ℕ → List ℕ → ℕ → Edges → ℕ → Type 0
IsLuma16 slice number y mode edges qp =
    (has_edges edges mode ≡ true)
    × ((a b : ℕ) → a < 16 → b < 16 → sample_in_rows 16 y a b ≡ constructed (intra16_sample edges mode a b) (luma_residual (macroblock slice number) qp a b))

-- what its chroma gives
abbrev pub WithChroma : Slice → ℕ → List Tile → ℕ → List ℕ → Option Tile → Around → ℕ → Type 0
WithChroma slice number tiles mode y result usable qpc =
    MatchOption result (has_chroma_edges (cb_edges tiles usable) mode ≡ false) (λ tile. IsIntraChroma (macroblock slice number) tiles usable qpc mode tile × (tile.y ≡ y))

pub intra4_answers : (slice : Slice) (number : ℕ) (vectors : List Vector) (tiles : List Tile) (modes : List Mode) (chroma pattern : ℕ) (y : List ℕ) (result : Option Tile) → kind_at slice number ≡ Intra4 modes chroma pattern
    → IsLuma4 slice number y (luma_edges tiles (usable_at slice number)) (modes_at slice number) (luma_qp_at slice number)
    → WithChroma slice number tiles chroma y result (usable_at slice number) (chroma_qp_at slice number)
    → Answers slice number vectors tiles result
intra4_answers slice number vectors tiles modes chroma pattern y result is luma both =
    mapped result _ _ _ _
    (λ h. lacks slice number tiles (Intra4 modes chroma pattern) is (inr h))
    (λ tile h.
    let same : (a b : ℕ) → a < 16 → b < 16 → tile_y tile a b ≡ constructed (intra4_sample (luma_edges tiles (usable_at slice number)) (modes_at slice number) tile.y a b) (block_residual (macroblock slice number).luma (luma_qp_at slice number) a b) =
    subst (λ z. (a b : ℕ) → a < 16 → b < 16 → sample_in_rows 16 z a b ≡ constructed (intra4_sample (luma_edges tiles (usable_at slice number)) (modes_at slice number) z a b) (block_residual (macroblock slice number).luma (luma_qp_at slice number) a b)) (sym h.1) luma.1 in
    whole_tile slice number vectors tiles tile (Intra4 modes chroma pattern) is (intra4_tile slice number vectors tiles tile modes chroma pattern is luma.0 same h.0))
    both

pub intra16_answers : (slice : Slice) (number : ℕ) (vectors : List Vector) (tiles : List Tile) (mode chroma pattern : ℕ) (y : List ℕ) (result : Option Tile) → kind_at slice number ≡ Intra16 mode chroma pattern
    → IsLuma16 slice number y mode (luma_edges tiles (usable_at slice number)) (luma_qp_at slice number)
    → WithChroma slice number tiles chroma y result (usable_at slice number) (chroma_qp_at slice number)
    → Answers slice number vectors tiles result
intra16_answers slice number vectors tiles mode chroma pattern y result is luma both =
    mapped result _ _ _ _
    (λ h. lacks slice number tiles (Intra16 mode chroma pattern) is (inr h))
    (λ tile h.
    let same : (a b : ℕ) → a < 16 → b < 16 → tile_y tile a b ≡ constructed (intra16_sample (luma_edges tiles (usable_at slice number)) mode a b) (luma_residual (macroblock slice number) (luma_qp_at slice number) a b) =
    subst (λ z. (a b : ℕ) → a < 16 → b < 16 → sample_in_rows 16 z a b ≡ constructed (intra16_sample (luma_edges tiles (usable_at slice number)) mode a b) (luma_residual (macroblock slice number) (luma_qp_at slice number) a b)) (sym h.1) luma.1 in
    whole_tile slice number vectors tiles tile (Intra16 mode chroma pattern) is (intra16_tile slice number vectors tiles tile mode chroma pattern luma.0 same h.0))
    both

-- what an inter macroblock gives
abbrev pub AsInter : Slice → ℕ → List Vector → Option Tile → ℕ → ℕ → Type 0
AsInter slice number vectors result qp qpc = MatchOption result (LacksPicture slice (kind_at slice number)) (λ tile.
    HasPictures slice (kind_at slice number)
    × ((x y : ℕ) → x < 16 → y < 16 → tile_y tile x y ≡ constructed (inter_luma slice number vectors x y) (luma_residual (macroblock slice number) qp x y))
    × ((x y : ℕ) → x < 8 → y < 8 → tile_cb tile x y ≡ constructed (inter_cb slice number vectors x y) (chroma_residual (dc_of (macroblock slice number) 0) (chroma_of (macroblock slice number) 0) qpc x y))
    × ((x y : ℕ) → x < 8 → y < 8 → tile_cr tile x y ≡ constructed (inter_cr slice number vectors x y) (chroma_residual (dc_of (macroblock slice number) 1) (chroma_of (macroblock slice number) 1) qpc x y)))

pub inter_answers : (slice : Slice) (number : ℕ) (vectors : List Vector) (tiles : List Tile) (result : Option Tile) → is_intra (kind_at slice number) ≡ false
    → AsInter slice number vectors result (luma_qp_at slice number) (chroma_qp_at slice number)
    → Answers slice number vectors tiles result
inter_answers slice number vectors tiles result inter given =
    mapped result _ _ _ _ (λ h. inl h)
    (λ tile h. whole_tile slice number vectors tiles tile (kind_at slice number) refl (inter_tile slice number vectors tiles tile (kind_at slice number) inter h.0 (record { y = h.1; cb = h.2; cr = h.3 })))
    given

-- a kind that isn't one of the three intra ones
pub not_intra : (kind : MbKind) → ((samples : List ℕ) → kind ≡ Pcm samples → ⊥) → ((modes : List Mode) (chroma pattern : ℕ) → kind ≡ Intra4 modes chroma pattern → ⊥) → ((mode chroma pattern : ℕ) → kind ≡ Intra16 mode chroma pattern → ⊥) → is_intra kind ≡ false
not_intra Skip a b c = refl
not_intra (Pcm samples) a b c = absurd (a samples refl)
not_intra (Intra4 modes chroma pattern) a b c = absurd (b modes chroma pattern refl)
not_intra (Intra16 mode chroma pattern) a b c = absurd (c mode chroma pattern refl)
not_intra (Whole part pattern) a b c = refl
not_intra (Wide parts pattern) a b c = refl
not_intra (Tall parts pattern) a b c = refl
not_intra (Four subs pattern) a b c = refl
not_intra (FourFirst subs pattern) a b c = refl
