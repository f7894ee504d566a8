use Rattle.std.proofs.Common.{◌≡◌, ℕ, ◌/◌, ◌<◌, ◌∙◌, cond, refl, sym, ap, arith}
use Rattle.cb_types.specs.declared.header.EntryWeights.{EntryWeights}
use Rattle.cb_types.specs.declared.header.Weight.{Weight}
use Rattle.motion.specs.Border.{vector_at}
use Rattle.motion.specs.Partitions.{first_block, partition_of}
use Rattle.motion.specs.declared.partition.Partition.{Partition}
use Rattle.motion.proofs.PartitionLemmas.{first_before}
use Rattle.std.specs.Prelude.{Option}
use Rattle.vd_plane.specs.SampleArray.{covers}
use Rattle.vd_plane.specs.Tiles.{tile_cb, tile_cr, tile_y}
use Rattle.vd_plane.specs.declared.tile.Tile.{Tile}
use Rattle.recon.specs.Inputs.{slice_in}
use Rattle.recon.specs.Inter.{chroma_block, chroma_shown, chroma_weight, inter_cb, inter_cr, inter_luma, luma_block, luma_shown, under}
use Rattle.recon.specs.Slice.{column_of, kind_at, row_of}
use Rattle.recon.proofs.InterLemmas.{cb_wanted, cr_wanted, lacking_more, luma_wanted}
use Rattle.recon.proofs.PartitionRects.{none_begins, partition_laid, rect_of}
use Rattle.recon.proofs.RangeLemmas.{reference_small}
use Rattle.recon.proofs.inter_samples.inter.Goals as goal
use Rattle.recon.proofs.inter_samples.inter.Goals.{then-first_block-block+in_ok-picture, else-first_block-block}

pub picture_of-requires-clause-entry : goal.picture_of-requires-clause-entry
picture_of-requires-clause-entry c =
    let range = (c.requires.slice.each c.args.number (omega arith)).kind in
    omega (arith, reference_small (kind_at (slice_in c.args.inputs.now) c.args.number) c.loop-block.block range, ap (λ (p : Partition). p.reference) c.partition_of-partition.ensures.partition)

pub entry_weights-weights-requires-clause-entry : goal.entry_weights-weights-requires-clause-entry
entry_weights-weights-requires-clause-entry c =
    let range = (c.requires.slice.each c.args.number (omega arith)).kind in
    omega (arith, reference_small (kind_at (slice_in c.args.inputs.now) c.args.number) c.loop-block.block range, ap (λ (p : Partition). p.reference) c.partition_of-partition.ensures.partition)

pub returns : goal.returns
returns c =
    let kind = kind_at (slice_in c.args.inputs.now) c.args.number in
    let first : (b : ℕ) → b < 16 → first_block (partition_of kind b) < c.loop-block.block = λ b lt. omega (arith, first_before kind b lt) in (
      λ inter b lt. c.loop-block.invariant.pictures b lt (first b lt),
      λ x y across down. c.loop-block.invariant.y x y across down (first (luma_block x y) (omega arith)),
      λ x y across down. c.loop-block.invariant.cb x y across down (first (chroma_block x y) (omega arith)),
      λ x y across down. c.loop-block.invariant.cr x y across down (first (chroma_block x y) (omega arith)),
    )

pub loop-block-preserved : goal.loop-block-preserved
loop-block-preserved c =
    let slice = slice_in c.args.inputs.now in
    let kind = kind_at slice c.args.number in
    let n : ℕ = c.loop-block.block in
    let number : ℕ = c.args.number in
    let vectors = c.args.vectors.now in
    let p : Partition = c.partition_of-partition.result in
    let is : p ≡ partition_of kind n = c.partition_of-partition.ensures.partition in
    let entry : p.reference ≡ (partition_of kind n).reference = ap (λ (q : Partition). q.reference) is in
    elim c.if-first_block-block.branch [
      | then-first_block-block+in_ok-picture w ↦
          let begins : first_block (partition_of kind n) ≡ n = ap first_block (sym is) ∙ (sym c.first_block.ensures.block ∙ w.if-first_block-block.true) in
          let weights = w.entry_weights-weights.ensures.weights in
          let picture = w.in_ok-picture.picture.now in
          let vector = vector_at vectors n in
          record {
            pictures = lacking_more slice kind n p.reference entry w.in_ok-picture.ensures.0 c.loop-block.invariant.pictures;
            y = λ x y across down.
                partition_laid kind n (luma_block x y) (x / 4) (y / 4) (tile_y c.loop-block.tile x y) (tile_y c.if-first_block-block.tile x y) _ (inter_luma slice number vectors x y) (omega arith) (omega arith) (omega arith) (omega arith) begins
                (ap (λ (t : Tile). tile_y t x y) w.tile-is ∙ (w.predict_luma.ensures x y across down ∙ ap (λ (q : Partition). cond (covers (rect_of q) (x / 4) (y / 4)) (under slice.header.weights.luma_denom w.entry_weights-weights.result.luma (luma_shown picture.y vector (column_of slice number) (row_of slice number) x y)) (tile_y c.loop-block.tile x y)) is))
                (λ e. ap (λ (s : EntryWeights). under slice.header.weights.luma_denom s.luma (luma_shown picture.y vector (column_of slice number) (row_of slice number) x y)) weights
                ∙ luma_wanted slice number vectors picture n x y p.reference vector (omega arith) c.requires.shared entry refl w.in_ok-picture.ensures.1 e)
                (c.loop-block.invariant.y x y across down);
            cb = λ x y across down.
                partition_laid kind n (chroma_block x y) (x / 2) (y / 2) (tile_cb c.loop-block.tile x y) (tile_cb c.if-first_block-block.tile x y) _ (inter_cb slice number vectors x y) (omega arith) (omega arith) (omega arith) (omega arith) begins
                (ap (λ (t : Tile). tile_cb t x y) w.tile-is ∙ (w.predict_chroma.ensures x y across down ∙ ap (λ (q : Partition). cond (covers (rect_of q) (x / 2) (y / 2)) (under slice.header.weights.chroma_denom w.chroma_weight-cb.result (chroma_shown picture.cb vector (column_of slice number) (row_of slice number) x y)) (tile_cb c.loop-block.tile x y)) is))
                (λ e. ap (λ (s : Option Weight). under slice.header.weights.chroma_denom s (chroma_shown picture.cb vector (column_of slice number) (row_of slice number) x y)) (w.chroma_weight-cb.ensures.weight ∙ ap (λ (s : EntryWeights). chroma_weight s.chroma 0) weights)
                ∙ cb_wanted slice number vectors picture n x y p.reference vector (omega arith) c.requires.shared entry refl w.in_ok-picture.ensures.1 e)
                (c.loop-block.invariant.cb x y across down);
            cr = λ x y across down.
                partition_laid kind n (chroma_block x y) (x / 2) (y / 2) (tile_cr c.loop-block.tile x y) (tile_cr c.if-first_block-block.tile x y) _ (inter_cr slice number vectors x y) (omega arith) (omega arith) (omega arith) (omega arith) begins
                (ap (λ (t : Tile). tile_cr t x y) w.tile-is ∙ (w.predict_chroma-then-first_block-block.ensures x y across down ∙ ap (λ (q : Partition). cond (covers (rect_of q) (x / 2) (y / 2)) (under slice.header.weights.chroma_denom w.chroma_weight-cr.result (chroma_shown picture.cr vector (column_of slice number) (row_of slice number) x y)) (tile_cr c.loop-block.tile x y)) is))
                (λ e. ap (λ (s : Option Weight). under slice.header.weights.chroma_denom s (chroma_shown picture.cr vector (column_of slice number) (row_of slice number) x y)) (w.chroma_weight-cr.ensures.weight ∙ ap (λ (s : EntryWeights). chroma_weight s.chroma 1) weights)
                ∙ cr_wanted slice number vectors picture n x y p.reference vector (omega arith) c.requires.shared entry refl w.in_ok-picture.ensures.1 e)
                (c.loop-block.invariant.cr x y across down);
          }
      | else-first_block-block w ↦
          let not_first : first_block (partition_of kind n) ≡ n → ⊥ = λ e. w.if-first_block-block.false (c.first_block.ensures.block ∙ (ap first_block is ∙ e)) in
          record {
            pictures = λ b lt within. c.loop-block.invariant.pictures b lt (none_begins kind n b lt not_first within);
            y = λ x y across down within. ap (λ (t : Tile). tile_y t x y) w.tile-is ∙ c.loop-block.invariant.y x y across down (none_begins kind n (luma_block x y) (omega arith) not_first within);
            cb = λ x y across down within. ap (λ (t : Tile). tile_cb t x y) w.tile-is ∙ c.loop-block.invariant.cb x y across down (none_begins kind n (chroma_block x y) (omega arith) not_first within);
            cr = λ x y across down within. ap (λ (t : Tile). tile_cr t x y) w.tile-is ∙ c.loop-block.invariant.cr x y across down (none_begins kind n (chroma_block x y) (omega arith) not_first within);
          }
    ]
