-- Inter predicted samples. H.264, 8.4.2.2 and 8.4.2.3.
use Rattle.std.specs.Prelude.{ℕ, ◌+◌, ◌*◌, ◌/◌, if◌then◌else◌, List, slice_index_or, Option, Some, None, pos, ◌+ℤ◌}
use Rattle.cb_types.specs.Blocks.{block_at}
use Rattle.cb_types.specs.declared.header.EntryWeights.{EntryWeights}
use Rattle.cb_types.specs.declared.header.Header.{Header}
use Rattle.cb_types.specs.declared.header.Weight.{Weight}
use Rattle.cb_types.specs.declared.macroblock.Vector.{Vector}
use Rattle.cb_types.specs.declared.picture_info.PictureInfo.{PictureInfo}
use Rattle.inter_pred.specs.Chroma.{chroma_at}
use Rattle.inter_pred.specs.Luma.{luma_at}
use Rattle.inter_pred.specs.Weights.{weighted}
use Rattle.motion.specs.Border.{vector_at}
use Rattle.motion.specs.Partitions.{partition_of}
use Rattle.vd_plane.specs.SampleArray.{SampleArray}
use Rattle.recon.specs.References.{cb_of, cr_of, picture_of, y_of}
use Rattle.recon.specs.Slice.{Slice, column_of, kind_at, row_of}

-- the weights that are used for an entry of the list: those of the header, where the info says that prediction is weighted
abbrev pub entry_weights : PictureInfo → Header → ℕ → EntryWeights
entry_weights info header entry =
    let unweighted : EntryWeights = record { luma = None; chroma = None } in
    if info.weighted_pred_flag then slice_index_or header.weights.entries entry unweighted else unweighted

-- the weight of Cb (plane 0) or Cr (plane 1)
abbrev pub chroma_weight : Option (List Weight) → ℕ → Option Weight
chroma_weight None plane = None
chroma_weight (Some weights) plane = Some (slice_index_or weights plane (record { weight = pos 0; offset = pos 0 }))

-- A sample under a weight. Without one the weight is 2 to the power of the denominator and the offset 0, which leave it as it is.
abbrev pub under : ℕ → Option Weight → ℕ → ℕ
under denom None p = p
under denom (Some w) p = weighted denom w.weight w.offset p

-- the block that has the luma sample in column x of row y, and the one of the chroma sample there
abbrev pub luma_block : ℕ → ℕ → ℕ
luma_block x y = block_at (x / 4) (y / 4)

abbrev pub chroma_block : ℕ → ℕ → ℕ
chroma_block x y = block_at (x / 2) (y / 2)

-- the sample of a reference plane that a vector shows for column x of row y, of the macroblock in a column of a row: in quarters of a luma
-- sample, and in eighths of a chroma sample
abbrev pub luma_shown : SampleArray → Vector → ℕ → ℕ → ℕ → ℕ → ℕ
luma_shown plane vector column row x y = luma_at plane (pos (4 * (16 * column + x)) +ℤ vector.x) (pos (4 * (16 * row + y)) +ℤ vector.y)

abbrev pub chroma_shown : SampleArray → Vector → ℕ → ℕ → ℕ → ℕ → ℕ
chroma_shown plane vector column row x y = chroma_at plane (pos (8 * (8 * column + x)) +ℤ vector.x) (pos (8 * (8 * row + y)) +ℤ vector.y)

-- the predicted sample in column x of row y of the macroblock of this number
unfoldable pub inter_luma : Slice → ℕ → List Vector → ℕ → ℕ → ℕ
inter_luma slice number vectors x y =
    let entry = (partition_of (kind_at slice number) (luma_block x y)).reference in
    under slice.header.weights.luma_denom (entry_weights slice.info slice.header entry).luma
    (luma_shown (y_of (picture_of slice.list slice.pictures entry)) (vector_at vectors (luma_block x y)) (column_of slice number) (row_of slice number) x y)

unfoldable pub inter_cb : Slice → ℕ → List Vector → ℕ → ℕ → ℕ
inter_cb slice number vectors x y =
    let entry = (partition_of (kind_at slice number) (chroma_block x y)).reference in
    under slice.header.weights.chroma_denom (chroma_weight (entry_weights slice.info slice.header entry).chroma 0)
    (chroma_shown (cb_of (picture_of slice.list slice.pictures entry)) (vector_at vectors (chroma_block x y)) (column_of slice number) (row_of slice number) x y)

unfoldable pub inter_cr : Slice → ℕ → List Vector → ℕ → ℕ → ℕ
inter_cr slice number vectors x y =
    let entry = (partition_of (kind_at slice number) (chroma_block x y)).reference in
    under slice.header.weights.chroma_denom (chroma_weight (entry_weights slice.info slice.header entry).chroma 1)
    (chroma_shown (cr_of (picture_of slice.list slice.pictures entry)) (vector_at vectors (chroma_block x y)) (column_of slice number) (row_of slice number) x y)
