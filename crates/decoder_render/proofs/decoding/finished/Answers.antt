use Rattle.std.proofs.Common.{◌∙◌, arith}
use Rattle.decoder_render.proofs.MarkRanges.{all_marks}
use Rattle.decoder_render.proofs.decoding.finished.Goals as goal

pub filter-requires-clause-marks : goal.filter-requires-clause-marks
filter-requires-clause-marks c =
    let total = c.macroblocks.ensures in
    all_marks c.args.size c.args.marks.now c.requires.marks (λ number below. c.requires.each number (omega (arith, below, total, c.requires.covered, c.if-missing-gt0.false)))

pub returns-clause-decoded : goal.returns-clause-decoded
returns-clause-decoded c = λ all full.
    let sides = c.place_tiles.ensures.size in
    record {
      constructed = c.place_tiles.new.picture;
      size = record { width = sides.y.width ∙ c.requires.picture.width; height = sides.y.height ∙ c.requires.picture.height };
      shows = c.place_tiles.ensures.samples;
      y = c.filter.ensures.y;
      cb = c.filter.ensures.cb;
      cr = c.filter.ensures.cr;
    }
