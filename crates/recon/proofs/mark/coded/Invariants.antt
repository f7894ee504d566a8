use Rattle.std.proofs.Common.{◌≡◌, ℕ, ◌<◌, false, length}
use Rattle.std.specs.Prelude.{slice_index_or}
use Rattle.recon.specs.Marks.{has_levels}
use Rattle.recon.specs.Residuals.{levels_at}
use Rattle.recon.proofs.mark.coded.Given as goal

abbrev pub invariant-loop-block : goal.invariant-loop-block
invariant-loop-block l = record {
  count : length l.coded ≡ 16;
  coded : (block : ℕ) → block < l.block → slice_index_or l.coded block false ≡ has_levels (levels_at l.macroblock.luma block);
}
