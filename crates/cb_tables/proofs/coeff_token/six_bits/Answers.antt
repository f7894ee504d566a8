use Rattle.cb_tables.proofs.TokenLemmas.{six_bits_none, six_bits_some}
use Rattle.cb_tables.proofs.coeff_token.six_bits.Goals as goal

pub returns-then-total-eq0 : goal.returns-then-total-eq0
returns-then-total-eq0 c = six_bits_none c.args.total c.args.ones c.if-total-eq0.true

pub returns-else-total-eq0 : goal.returns-else-total-eq0
returns-else-total-eq0 c = six_bits_some c.args.total c.args.ones c.if-total-eq0.false
