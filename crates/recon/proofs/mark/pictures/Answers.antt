use Rattle.std.proofs.Common.{ap, arith}
use Rattle.motion.specs.declared.partition.Partition.{Partition}
use Rattle.recon.proofs.RangeLemmas.{reference_small}
use Rattle.recon.proofs.mark.pictures.Goals as goal

pub bounds-list-reference : goal.bounds-list-reference
bounds-list-reference c = omega (arith, reference_small c.args.kind.now c.loop-block.block c.requires, ap (λ (p : Partition). p.reference) c.partition_of-reference.ensures.partition)
