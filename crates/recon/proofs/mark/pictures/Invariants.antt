use Rattle.std.proofs.Common.{◌≡◌, ℕ, ◌<◌, get_or, length}
use Rattle.recon.specs.Marks.{place_in}
use Rattle.recon.proofs.mark.pictures.Given as goal

abbrev pub invariant-loop-block : goal.invariant-loop-block
invariant-loop-block l = record {
  count : length l.pictures ≡ 16;
  places : (block : ℕ) → block < l.block → get_or l.pictures block 0 ≡ place_in l.list.entries l.kind block;
}
