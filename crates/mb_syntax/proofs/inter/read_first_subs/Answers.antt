use Rattle.mb_syntax.proofs.SubLemmas.{first_subs_read, no_first_kinds}
use Rattle.mb_syntax.proofs.inter.read_first_subs.Goals as goal

pub returns-in_err-kinds : goal.returns-in_err-kinds
returns-in_err-kinds c = rw c.from_residual.ensures (no_first_kinds c.args.slice.now c.args.reader.now c.in_err-kinds.ensures)

pub returns : goal.returns
returns c = first_subs_read c.args.slice.now c.in_ok-kinds.kinds c.args.reader.now c.read_sub_kinds.new.reader c.read_subs_of.new.reader c.read_subs_of.result c.requires.some
    c.in_ok-kinds.ensures.0 c.in_ok-kinds.ensures.1 c.read_subs_of.ensures
