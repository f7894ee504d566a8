use Rattle.std.proofs.Common.{length}
use Rattle.recon.specs.Laws.{AreWhole}
use Rattle.decoder_render.specs.Halves.{AreBuilt, part_from}
use Rattle.decoder_render.specs.Parsed.{start_of}
use Rattle.decoder_render.proofs.halves.construct_in_turn.Given as goal

abbrev pub invariant-loop-number : goal.invariant-loop-number
invariant-loop-number g l = record {
  built : AreBuilt l.source (part_from (start_of l.source.slices.now l.from) l.marks l.into) l.from l.number;
  whole : AreWhole l.marks l.into (length l.marks);
}
