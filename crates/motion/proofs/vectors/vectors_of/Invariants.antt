use Rattle.std.proofs.Common.{◌≡◌, length}
use Rattle.motion.specs.Vectors.{AreVectors}
use Rattle.motion.proofs.vectors.vectors_of.Given as goal

abbrev pub invariant-loop-block : goal.invariant-loop-block
invariant-loop-block l = record {
  count : length l.vectors ≡ 16;
  vectors : AreVectors l.border l.kind l.block l.vectors;
}
