use Rattle.std.proofs.Common.{◌≡◌, ◌≤◌, length, min}
use Rattle.cb_types.specs.SizeMbs.{macroblocks}
use Rattle.decoder_render.specs.Parsed.{AreParsed, start_of}
use Rattle.decoder_render.specs.Submission.{bytes_of}
use Rattle.decoder_render.proofs.parsing.parse_slices.Given as goal

abbrev pub invariant-loop-number : goal.invariant-loop-number
invariant-loop-number l = record {
  room : length l.slices ≡ min (length l.units) (macroblocks l.size);
  whole : length l.macroblocks ≡ macroblocks l.size;
  parsed : AreParsed l.info l.size (bytes_of l.units) l.slices l.macroblocks l.number;
  starts : l.covered ≡ start_of l.slices l.number;
  inside : l.covered ≤ macroblocks l.size;
  some : l.number ≤ l.covered;
}
