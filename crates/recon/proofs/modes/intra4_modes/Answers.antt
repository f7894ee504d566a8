use Rattle.std.proofs.Common.{◌∙◌, [], ap, refl, arith, rules}
use Rattle.std.specs.Prelude.{option_map}
use Rattle.recon.specs.Modes.{chosen, spelled_at}
use Rattle.recon.proofs.ModeLemmas.{modes_all, modes_next, no_modes_yet}
use Rattle.recon.proofs.modes.intra4_modes.Goals as goal

pub loop-block-init : goal.loop-block-init
loop-block-init c = record {
  count = refl;
  modes = no_modes_yet c.args.spelled.now (option_map (λ m. m.0) c.args.left.now) (option_map (λ m. m.0) c.args.above.now) [];
}

pub loop-block-preserved : goal.loop-block-preserved
loop-block-preserved c = record {
  count = search rules;
  modes = modes_next c.args.spelled.now (option_map (λ m. m.0) c.args.left.now) (option_map (λ m. m.0) c.args.above.now) c.loop-block.modes c.loop-block.block c.chosen.result (omega arith) c.loop-block.invariant.count c.loop-block.invariant.modes
      (c.chosen.ensures ∙ ap (chosen (spelled_at c.args.spelled.now c.loop-block.block)) c.predicted_mode-predicted.ensures);
}

pub returns : goal.returns
returns c = modes_all c.args.spelled.now (option_map (λ m. m.0) c.args.left.now) (option_map (λ m. m.0) c.args.above.now) c.loop-block.modes c.loop-block.block (omega arith) c.loop-block.invariant.count c.loop-block.invariant.modes
