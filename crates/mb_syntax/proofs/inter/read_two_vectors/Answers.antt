use Rattle.std.proofs.Common.{arith}
use Rattle.mb_syntax.proofs.InterLemmas.{vector_free}
use Rattle.mb_syntax.proofs.Lists.{no_first, no_further, two_read}
use Rattle.mb_syntax.specs.Prediction.{IsVector, vector_bits}
use Rattle.mb_syntax.proofs.inter.read_two_vectors.Goals as goal

pub returns-in_err-first : goal.returns-in_err-first
returns-in_err-first c = rw c.from_residual.ensures (no_first IsVector vector_bits vector_free 2 c.args.reader.now (omega arith) c.in_err-first.ensures)

pub returns-in_err-second : goal.returns-in_err-second
returns-in_err-second c = rw c.from_residual-in_err-second.ensures (no_further IsVector vector_bits vector_free 2 c.in_ok-first.first c.args.reader.now c.read_vector.new.reader (omega arith)
    c.in_ok-first.ensures.0 c.in_ok-first.ensures.1 c.in_err-second.ensures)

pub returns : goal.returns
returns c = two_read IsVector vector_bits c.in_ok-first.first c.in_ok-second.second c.args.reader.now c.read_vector.new.reader c.read_vector-2.new.reader
    c.in_ok-first.ensures.0 c.in_ok-first.ensures.1 c.in_ok-second.ensures.0 c.in_ok-second.ensures.1
