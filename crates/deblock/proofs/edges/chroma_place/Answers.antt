use Rattle.std.proofs.Common.{◌*◌, arith}
use Rattle.deblock.specs.Lines.{after_chroma_line}
use Rattle.deblock.proofs.Places.{twos, chroma_leaves, place_lines, weak_place}
use Rattle.deblock.proofs.edges.chroma_place.Goals as goal

pub returns-then-strength-gt0 : goal.returns-then-strength-gt0
returns-then-strength-gt0 c = place_lines after_chroma_line c.args.run c.args.indexes c.args.strengths 2 (2 * c.args.place) 2 c.args.place c.filter_by.result c.args.samples.now _ (twos c.args.place) c.filter_by.ensures.value c.chroma_lines.ensures

pub returns-else-strength-gt0 : goal.returns-else-strength-gt0
returns-else-strength-gt0 c = weak_place after_chroma_line chroma_leaves c.args.run c.args.indexes c.args.strengths 2 (2 * c.args.place) 2 c.args.place c.args.samples.now (twos c.args.place) (omega arith)
