use Rattle.std.proofs.Common.{◌≡◌, ◌∙◌, true, false, sym, arith, below_more}
use Rattle.recon.specs.Intra.{has_sides}
use Rattle.recon.proofs.Intra4Lemmas.{intra4_more}
use Rattle.recon.proofs.SidesLemmas.{there_by_sides}
use Rattle.recon.proofs.intra.intra4.Goals as goal

pub loop-block-preserved : goal.loop-block-preserved
loop-block-preserved c =
    let edges = c.args.edges.now in
    let modes = c.args.modes.now.0 in
    let there : has_sides edges modes c.loop-block.block ≡ true = sym (there_by_sides edges modes c.loop-block.luma c.loop-block.block c.sides_of-sides.result c.sides_of-sides.ensures) ∙ sym c.in_ok-prediction.ensures.available in
    record {
      available = below_more _ _ c.loop-block.invariant.available there;
      samples = intra4_more edges modes c.loop-block.block c.block_x-column.result c.block_y-row.result c.args.qp c.args.blocks.now c.in_ok-prediction.prediction c.loop-block.luma c.put_block.new.luma c.add_block.new.samples c.sides_of-sides.result
          (record { inside = omega arith; of_column = c.block_x-column.ensures; of_row = c.block_y-row.ensures; put = c.put_block.ensures; add = c.add_block.ensures })
          c.sides_of-sides.ensures c.in_ok-prediction.ensures.samples c.loop-block.invariant.samples;
    }

pub returns-in_err-prediction : goal.returns-in_err-prediction
returns-in_err-prediction c =
    let edges = c.args.edges.now in
    let modes = c.args.modes.now.0 in
    let missing : has_sides edges modes c.loop-block.block ≡ false = sym (there_by_sides edges modes c.loop-block.luma c.loop-block.block c.sides_of-sides.result c.sides_of-sides.ensures) ∙ sym c.in_err-prediction.ensures.available in
    rw c.from_residual.ensures (c.loop-block.block, omega arith, missing)
