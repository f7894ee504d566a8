-- A slice's marks and tiles, as a system of equations over these marks and tiles themselves: a macroblock's vectors are predicted from
-- those of earlier blocks, and its intra samples from earlier samples. H.264, 8.3, 8.4 and 8.5.
use Rattle.std.specs.Prelude.{◌≡◌, ℕ, ◌+◌, ◌*◌, ◌<◌, ◌⊎◌, true, false, List, slice_index}
use Rattle.cb_types.specs.declared.macroblock.MbKind.{MbKind}
use Rattle.cb_types.specs.declared.macroblock.MbKind.TheVariants.{Pcm, Intra4, Intra16}
use Rattle.cb_types.specs.declared.macroblock.Vector.{Vector}
use Rattle.cb_types.specs.declared.mark.MbMark.{MbMark}
use Rattle.motion.specs.Border.{border_of, mark_at}
use Rattle.motion.specs.Kinds.{is_intra}
use Rattle.motion.specs.Partitions.{partition_of}
use Rattle.motion.specs.Vectors.{AreVectors, LeavesBounds}
use Rattle.motion.specs.declared.around.Around.{Around}
use Rattle.motion.specs.declared.border.Border.{Border}
use Rattle.vd_plane.specs.Tiles.{tile_at, tile_cb, tile_cr, tile_y}
use Rattle.vd_plane.specs.declared.tile.Tile.{Tile}
use Rattle.recon.specs.Availability.{usable_around}
use Rattle.recon.specs.Edges.{cb_edges, cr_edges, luma_edges}
use Rattle.recon.specs.Inter.{inter_cb, inter_cr, inter_luma}
use Rattle.recon.specs.Intra.{has_chroma_edges, has_edges, has_sides, intra16_sample, intra4_sample, intra_chroma_sample}
use Rattle.recon.specs.Marks.{IsMarkOf}
use Rattle.recon.specs.Modes.{next_modes, slice_modes}
use Rattle.recon.specs.Quantizer.{chroma_qp_of, qp_of}
use Rattle.recon.specs.References.{is_lacking}
use Rattle.recon.specs.Residuals.{chroma_of, chroma_residual, constructed, dc_of, luma_residual}
use Rattle.recon.specs.Slice.{Slice, kind_at, macroblock, neighbours}
use Rattle.recon.specs.declared.edges.ChromaEdges.{ChromaEdges}
use Rattle.recon.specs.declared.edges.Edges.{Edges}

abbrev pub border_at : Slice → List MbMark → ℕ → Border
border_at slice marks number = border_of slice.macroblocks marks (neighbours slice number)

-- the neighbours that intra prediction may use
abbrev pub usable_at : Slice → ℕ → Around
usable_at slice number = usable_around slice.info.constrained_intra_pred_flag slice.macroblocks (neighbours slice number)

abbrev pub modes_at : Slice → ℕ → List ℕ
modes_at slice number =
    let constrained = slice.info.constrained_intra_pred_flag in
    let first = slice.header.first_mb in
    let width = slice.size.width in
    next_modes constrained first width slice.macroblocks (slice_modes constrained first width slice.macroblocks number) number

abbrev pub luma_qp_at : Slice → ℕ → ℕ
luma_qp_at slice number = qp_of slice.info slice.header slice.macroblocks number

abbrev pub chroma_qp_at : Slice → ℕ → ℕ
chroma_qp_at slice number = chroma_qp_of slice.info (luma_qp_at slice number)

-- The predicted luma sample in column x of row y of a macroblock of this kind, from its vectors, its edges and its own luma samples
-- (8.3.1, 8.3.3, 8.4.2).
abbrev pub luma_prediction : Slice → ℕ → List Vector → Edges → List ℕ → MbKind → ℕ → ℕ → ℕ
luma_prediction slice number vectors edges luma (Intra4 modes chroma pattern) x y = intra4_sample edges (modes_at slice number) luma x y
luma_prediction slice number vectors edges luma (Intra16 mode chroma pattern) x y = intra16_sample edges mode x y
luma_prediction slice number vectors edges luma kind x y = inter_luma slice number vectors x y

-- the sample itself: the one that is spelled in I_PCM (8.3.5), or the prediction plus the residual, clipped (8.5.14)
abbrev pub luma_sample : Slice → ℕ → List Vector → Edges → List ℕ → MbKind → ℕ → ℕ → ℕ
luma_sample slice number vectors edges luma (Pcm samples) x y = slice_index samples (16 * y + x)
luma_sample slice number vectors edges luma kind x y =
    constructed (luma_prediction slice number vectors edges luma kind x y) (luma_residual (macroblock slice number) (luma_qp_at slice number) x y)

-- the same of Cb and of Cr (8.3.4, 8.4.2)
abbrev pub cb_prediction : Slice → ℕ → List Vector → ChromaEdges → MbKind → ℕ → ℕ → ℕ
cb_prediction slice number vectors edges (Intra4 modes chroma pattern) x y = intra_chroma_sample edges chroma x y
cb_prediction slice number vectors edges (Intra16 mode chroma pattern) x y = intra_chroma_sample edges chroma x y
cb_prediction slice number vectors edges kind x y = inter_cb slice number vectors x y

abbrev pub cr_prediction : Slice → ℕ → List Vector → ChromaEdges → MbKind → ℕ → ℕ → ℕ
cr_prediction slice number vectors edges (Intra4 modes chroma pattern) x y = intra_chroma_sample edges chroma x y
cr_prediction slice number vectors edges (Intra16 mode chroma pattern) x y = intra_chroma_sample edges chroma x y
cr_prediction slice number vectors edges kind x y = inter_cr slice number vectors x y

abbrev pub cb_sample : Slice → ℕ → List Vector → ChromaEdges → MbKind → ℕ → ℕ → ℕ
cb_sample slice number vectors edges (Pcm samples) x y = slice_index samples (256 + 8 * y + x)
cb_sample slice number vectors edges kind x y =
    constructed (cb_prediction slice number vectors edges kind x y)
    (chroma_residual (dc_of (macroblock slice number) 0) (chroma_of (macroblock slice number) 0) (chroma_qp_at slice number) x y)

abbrev pub cr_sample : Slice → ℕ → List Vector → ChromaEdges → MbKind → ℕ → ℕ → ℕ
cr_sample slice number vectors edges (Pcm samples) x y = slice_index samples (320 + 8 * y + x)
cr_sample slice number vectors edges kind x y =
    constructed (cr_prediction slice number vectors edges kind x y)
    (chroma_residual (dc_of (macroblock slice number) 1) (chroma_of (macroblock slice number) 1) (chroma_qp_at slice number) x y)

-- The equations of the samples of a macroblock with these vectors, whose neighbours have their samples in these tiles.
pub record IsTile (slice : Slice) (number : ℕ) (vectors : List Vector) (tiles : List Tile) (tile : Tile) : Type 0 where
  pub y : (x y : ℕ) → x < 16 → y < 16 → tile_y tile x y ≡ luma_sample slice number vectors (luma_edges tiles (usable_at slice number)) tile.y (kind_at slice number) x y
  pub cb : (x y : ℕ) → x < 8 → y < 8 → tile_cb tile x y ≡ cb_sample slice number vectors (cb_edges tiles (usable_at slice number)) (kind_at slice number) x y
  pub cr : (x y : ℕ) → x < 8 → y < 8 → tile_cr tile x y ≡ cr_sample slice number vectors (cr_edges tiles (usable_at slice number)) (kind_at slice number) x y

-- Each reference of an inter macroblock is there.
abbrev pub HasPictures : Slice → MbKind → Type 0
HasPictures slice kind = is_intra kind ≡ false → (block : ℕ) → block < 16 → is_lacking slice.info slice.list slice.pictures (partition_of kind block).reference ≡ false

-- One is missing, an absent frame, or one whose picture isn't given.
pub record LacksPicture (slice : Slice) (kind : MbKind) : Type 0 where
  pub is_inter : is_intra kind ≡ false
  pub block : ℕ
  pub inside : block < 16
  pub lacking : is_lacking slice.info slice.list slice.pictures (partition_of kind block).reference ≡ true

-- The samples that the modes of an intra macroblock need are there.
abbrev pub HasSamples : Slice → ℕ → List Tile → MbKind → Type 0
HasSamples slice number tiles (Intra4 modes chroma pattern) =
    ((block : ℕ) → block < 16 → has_sides (luma_edges tiles (usable_at slice number)) (modes_at slice number) block ≡ true)
    × (has_chroma_edges (cb_edges tiles (usable_at slice number)) chroma ≡ true)
HasSamples slice number tiles (Intra16 mode chroma pattern) =
    (has_edges (luma_edges tiles (usable_at slice number)) mode ≡ true) × (has_chroma_edges (cb_edges tiles (usable_at slice number)) chroma ≡ true)
HasSamples slice number tiles kind = Unit {0}

-- Some are missing.
abbrev pub LacksSamples : Slice → ℕ → List Tile → MbKind → Type 0
LacksSamples slice number tiles (Intra4 modes chroma pattern) =
    ((block : ℕ) × (block < 16) × (has_sides (luma_edges tiles (usable_at slice number)) (modes_at slice number) block ≡ false))
    ⊎ (has_chroma_edges (cb_edges tiles (usable_at slice number)) chroma ≡ false)
LacksSamples slice number tiles (Intra16 mode chroma pattern) =
    (has_edges (luma_edges tiles (usable_at slice number)) mode ≡ false) ⊎ (has_chroma_edges (cb_edges tiles (usable_at slice number)) chroma ≡ false)
LacksSamples slice number tiles kind = ⊥

-- The equations of a macroblock.
pub record IsRebuilt (slice : Slice) (marks : List MbMark) (tiles : List Tile) (number : ℕ) : Type 0 where
  pub mark : IsMarkOf slice.header slice.list (macroblock slice number) (luma_qp_at slice number) (mark_at marks number)
  pub vectors : AreVectors (border_at slice marks number) (kind_at slice number) 16 (mark_at marks number).vectors
  pub pictures : HasPictures slice (kind_at slice number)
  pub samples : HasSamples slice number tiles (kind_at slice number)
  pub tile : IsTile slice number (mark_at marks number).vectors tiles (tile_at tiles number)

-- those of the first macroblocks
abbrev pub AreRebuilt : Slice → List MbMark → List Tile → ℕ → Type 0
AreRebuilt slice marks tiles count = (number : ℕ) → number < count → IsRebuilt slice marks tiles number

-- A macroblock can't be constructed behind those before it: a vector leaves the bounds, a reference is missing, an absent frame or
-- not given, or an intra mode lacks samples.
abbrev pub Stops : Slice → List MbMark → List Tile → ℕ → Type 0
Stops slice marks tiles number =
    LeavesBounds (border_at slice marks number) (kind_at slice number)
    ⊎ (LacksPicture slice (kind_at slice number)
    ⊎ LacksSamples slice number tiles (kind_at slice number))

-- The first macroblock that can't be constructed is one of so many.
pub record StopsWithin (slice : Slice) (marks : List MbMark) (tiles : List Tile) (count : ℕ) : Type 0 where
  pub number : ℕ
  pub inside : number < count
  pub before : AreRebuilt slice marks tiles number
  pub stops : Stops slice marks tiles number
