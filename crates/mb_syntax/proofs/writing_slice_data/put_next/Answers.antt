use Rattle.std.proofs.Common.{◌∙◌, sym}
use Rattle.mb_syntax.proofs.WriteLemmas.{skip_counts}
use Rattle.mb_syntax.proofs.writing_slice_data.put_next.Goals as goal

pub returns-then-is_skip-clause-columns : goal.returns-then-is_skip-clause-columns
returns-then-is_skip-clause-columns c = λ at next.
    c.keep.ensures at.before c.args.mb.now next.size next.counts (skip_counts c.args.slice.now at.before c.args.mb.now next.is (sym c.is_skip.ensures ∙ c.if-is_skip.true))
