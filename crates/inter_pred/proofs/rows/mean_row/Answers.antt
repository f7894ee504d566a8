use Rattle.std.proofs.Common.{ℕ, ◌+◌, ◌*◌, get_or, ap, ◌∙◌, arith}
use Rattle.std.proofs.lemmas.Simd.{get_or-put_chunk_above}
use Rattle.inter_pred.specs.Luma.{mean}
use Rattle.inter_pred.proofs.LaneLemmas.{more_lanes}
use Rattle.inter_pred.proofs.rows.mean_row.Goals as goal

pub loop-block-preserved : goal.loop-block-preserved
loop-block-preserved c =
    let at = 8 * c.loop-block.block in
    let ys = c.args.samples.now in
    let old = c.args.out.now in (
      λ k within. more_lanes (λ (n : ℕ). mean (get_or old n 0) (get_or ys n 0)) at c.loop-block.out c.mean_lanes.result c.mean_lanes.ensures.count (omega arith) c.loop-block.invariant.0
          (λ n lt. c.mean_lanes.ensures.lanes n lt ∙ ap (λ u. mean u (get_or ys (at + n) 0)) (c.loop-block.invariant.1 (at + n) (omega arith))) k (omega arith),
      λ k le. get_or-put_chunk_above at c.loop-block.out c.mean_lanes.result k 0 (omega (arith, c.mean_lanes.ensures.count)) ∙ c.loop-block.invariant.1 k (omega arith),
    )
