use Rattle.mb_syntax.proofs.InterLemmas.{reference_read, reference_unspelled}
use Rattle.mb_syntax.proofs.inter.read_reference.Goals as goal

pub returns-then-slice-eq1 : goal.returns-then-slice-eq1
returns-then-slice-eq1 c = reference_unspelled c.args.slice.now c.args.reader.now c.if-slice-eq1.true

pub returns : goal.returns
returns c = reference_read c.args.slice.now c.args.reader.now c.read_te.new.self c.read_te.result c.requires.some c.requires.few c.if-slice-eq1.false c.read_te.ensures.reads
