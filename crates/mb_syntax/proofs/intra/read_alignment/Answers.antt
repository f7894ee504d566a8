use Rattle.mb_syntax.proofs.IntraLemmas.{alignment_read, no_alignment, wrong_alignment}
use Rattle.mb_syntax.proofs.intra.read_alignment.Goals as goal

pub returns-in_err-read_u : goal.returns-in_err-read_u
returns-in_err-read_u c = rw c.from_residual.ensures (no_alignment c.bits_to_byte-zeros.result c.args.reader.now c.bits_to_byte-zeros.ensures c.in_err-read_u.ensures.reads.1)

pub returns-then-branch-ne0 : goal.returns-then-branch-ne0
returns-then-branch-ne0 c = wrong_alignment c.bits_to_byte-zeros.result c.in_ok-read_u.field-0 c.args.reader.now c.read_u.new.self c.bits_to_byte-zeros.ensures c.in_ok-read_u.ensures.reads.0 c.in_ok-read_u.ensures.reads.1 c.if-branch-ne0.true

pub returns : goal.returns
returns c = alignment_read c.bits_to_byte-zeros.result c.in_ok-read_u.field-0 c.args.reader.now c.read_u.new.self c.bits_to_byte-zeros.ensures c.in_ok-read_u.ensures.reads.1 c.if-branch-ne0.false
