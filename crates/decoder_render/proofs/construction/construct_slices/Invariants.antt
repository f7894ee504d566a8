use Rattle.std.proofs.Common.{ℕ, ◌<◌, List, Option}
use Rattle.cb_types.specs.SizeMbs.{macroblocks}
use Rattle.deblock.specs.Marks.{IsMark}
use Rattle.motion.specs.Border.{mark_at}
use Rattle.recon.specs.Laws.{AreWhole}
use Rattle.recon.specs.References.{pictures_of}
use Rattle.decoder_render.specs.Coverage.{AreAccepted, given}
use Rattle.decoder_render.specs.Parsed.{AreParsed, covered_by, start_of}
use Rattle.decoder_render.proofs.construction.construct_slices.Given as goal

abbrev pub invariant-loop-number : goal.invariant-loop-number
invariant-loop-number l = record {
  whole : AreWhole l.marks l.into (macroblocks l.size);
  accepted : (units : List (Option (List ℕ))) → AreParsed l.info l.size units l.slices l.macroblocks l.count
      → AreAccepted (given l.info l.size (pictures_of l.refs)) units l.number (covered_by l.slices l.marks l.into l.number);
  marks : (k : ℕ) → k < start_of l.slices l.number → IsMark (mark_at l.marks k);
}
