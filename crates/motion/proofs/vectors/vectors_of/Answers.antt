use Rattle.std.proofs.Common.{ap, arith, rules, subst, sym, ◌∙◌}
use Rattle.std.proofs.lemmas.List.{get_or-replicate}
use Rattle.mv_pred.specs.Neighbours.{no_motion}
use Rattle.motion.specs.Partitions.{first_block}
use Rattle.motion.specs.Vectors.{IsWithinBounds}
use Rattle.motion.proofs.VectorLemmas.{from_named, still_vectors, vectors_more}
use Rattle.motion.proofs.vectors.vectors_of.Goals as goal
use Rattle.motion.proofs.vectors.vectors_of.Goals.{then-first-block, else-first-block+in_ok-vectors}

pub returns-then-is_intra : goal.returns-then-is_intra
returns-then-is_intra c = still_vectors c.args.border.now c.args.kind.now _ (sym c.if-is_intra.ensures) (λ block lt. get_or-replicate 16 block no_motion no_motion lt)

pub loop-block-preserved : goal.loop-block-preserved
loop-block-preserved c =
    let named = c.first_block-first.ensures.block ∙ ap first_block c.partition_of.ensures.partition in
    elim c.if-first-block.branch [
      | then-first-block w ↦
          let both = from_named c.args.border.now c.args.kind.now c.loop-block.vectors c.loop-block.block c.first_block-first.result c.if-first-block.vectors named (omega arith) w.if-first-block.true c.loop-block.invariant.vectors w.vectors-is in
          record {
            count = search (rules);
            vectors = vectors_more c.args.border.now c.args.kind.now c.loop-block.vectors c.loop-block.block c.if-first-block.vectors (omega arith) c.loop-block.invariant.count c.loop-block.invariant.vectors both.0 both.1;
          }
      | else-first-block+in_ok-vectors w ↦
          record {
            count = search (rules);
            vectors = vectors_more c.args.border.now c.args.kind.now c.loop-block.vectors c.loop-block.block c.if-first-block.vectors (omega arith) c.loop-block.invariant.count c.loop-block.invariant.vectors
                (w.vectors-is ∙ w.in_ok-vectors.ensures.0) (subst IsWithinBounds (sym w.vectors-is) w.in_ok-vectors.ensures.1);
          }
    ]
