use Rattle.std.proofs.Common.{arith, refl}
use Rattle.mb_syntax.proofs.BlockLemmas.{dc_both, dc_first_none, dc_neither, dc_second_none}
use Rattle.mb_syntax.specs.Counts.{dc_block}
use Rattle.mb_syntax.proofs.residual.read_chroma_dc.Goals as goal

pub returns-in_err-levels-clause-reads : goal.returns-in_err-levels-clause-reads
returns-in_err-levels-clause-reads c = rw c.from_residual.ensures (λ slice before kind behind e at.
    dc_first_none slice before kind behind at (omega (arith, e, c.if-pattern-ge16.true)) c.args.reader.now c.in_err-levels.ensures.reads)

pub returns-in_err-levels-2-clause-reads : goal.returns-in_err-levels-2-clause-reads
returns-in_err-levels-2-clause-reads c = rw c.from_residual-in_err-levels-2.ensures (λ slice before kind behind e at.
    dc_second_none slice before kind behind at (omega (arith, e, c.if-pattern-ge16.true)) (dc_block c.in_ok-levels.field-0) c.args.reader.now c.read_dc_block.new.reader c.in_ok-levels.ensures.reads c.in_err-levels-2.ensures.reads)

pub returns-in_ok-levels-2-clause-reads : goal.returns-in_ok-levels-2-clause-reads
returns-in_ok-levels-2-clause-reads c slice before kind behind e at =
    dc_both slice before kind behind at (omega (arith, e, c.if-pattern-ge16.true)) (dc_block c.in_ok-levels.field-0) c.args.reader.now c.read_dc_block.new.reader c.in_ok-levels.ensures.reads
    (dc_block c.in_ok-levels-2.field-0) c.read_dc_block-then-pattern-ge16.new.reader c.in_ok-levels-2.ensures.reads

pub returns-else-pattern-ge16-clause-reads : goal.returns-else-pattern-ge16-clause-reads
returns-else-pattern-ge16-clause-reads c slice before kind behind e at = dc_neither slice before kind behind at (omega (arith, e, c.if-pattern-ge16.false)) _ refl c.args.reader.now
