use Rattle.mb_syntax.proofs.PartLemmas.{no_references, no_vectors, parts_read}
use Rattle.mb_syntax.proofs.inter.read_parts.Goals as goal

pub returns-in_err-references : goal.returns-in_err-references
returns-in_err-references c = rw c.from_residual.ensures (no_references c.args.slice.now c.args.reader.now c.in_err-references.ensures)

pub returns-in_err-deltas : goal.returns-in_err-deltas
returns-in_err-deltas c = rw c.from_residual-in_err-deltas.ensures (no_vectors c.args.slice.now c.in_ok-references.references c.args.reader.now c.read_two_references.new.reader c.requires.few
    c.in_ok-references.ensures.0 c.in_ok-references.ensures.1 c.in_err-deltas.ensures)

pub returns : goal.returns
returns c = parts_read c.args.slice.now c.in_ok-references.references c.in_ok-deltas.deltas c.args.reader.now c.read_two_references.new.reader c.read_two_vectors.new.reader
    c.in_ok-references.ensures.0 c.in_ok-references.ensures.1 c.in_ok-deltas.ensures.0 c.in_ok-deltas.ensures.1
