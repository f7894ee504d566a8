use Rattle.std.proofs.Common.{◌*◌, arith}
use Rattle.deblock.specs.Lines.{after_luma_line}
use Rattle.deblock.proofs.Places.{fours, luma_leaves, place_lines, weak_place}
use Rattle.deblock.proofs.edges.luma_place.Goals as goal

pub returns-then-strength-gt0 : goal.returns-then-strength-gt0
returns-then-strength-gt0 c = place_lines after_luma_line c.args.run c.args.indexes c.args.strengths 4 (4 * c.args.place) 4 c.args.place c.filter_by.result c.args.samples.now _ (fours c.args.place) c.filter_by.ensures.value c.luma_lines.ensures

pub returns-else-strength-gt0 : goal.returns-else-strength-gt0
returns-else-strength-gt0 c = weak_place after_luma_line luma_leaves c.args.run c.args.indexes c.args.strengths 4 (4 * c.args.place) 4 c.args.place c.args.samples.now (fours c.args.place) (omega arith)
