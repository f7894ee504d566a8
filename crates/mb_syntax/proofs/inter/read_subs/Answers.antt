use Rattle.mb_syntax.proofs.SubLemmas.{no_kinds, no_sub_references, subs_read}
use Rattle.mb_syntax.proofs.inter.read_subs.Goals as goal

pub returns-in_err-kinds : goal.returns-in_err-kinds
returns-in_err-kinds c = rw c.from_residual.ensures (no_kinds c.args.slice.now c.args.reader.now c.in_err-kinds.ensures)

pub returns-in_err-references : goal.returns-in_err-references
returns-in_err-references c = rw c.from_residual-in_err-references.ensures (no_sub_references c.args.slice.now c.in_ok-kinds.kinds c.args.reader.now c.read_sub_kinds.new.reader
    c.in_ok-kinds.ensures.0 c.in_ok-kinds.ensures.1 c.in_err-references.ensures)

pub returns : goal.returns
returns c = subs_read c.args.slice.now c.in_ok-kinds.kinds c.in_ok-references.references c.args.reader.now c.read_sub_kinds.new.reader c.read_references.new.reader c.read_subs_of.new.reader c.read_subs_of.result c.requires.few
    c.in_ok-kinds.ensures.0 c.in_ok-kinds.ensures.1 c.in_ok-references.ensures.0 c.in_ok-references.ensures.1 c.read_subs_of.ensures
