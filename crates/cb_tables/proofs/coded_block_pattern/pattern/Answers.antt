use Rattle.std.proofs.Common.{◌∙◌, sym, ap, Bool}
use Rattle.cb_tables.specs.CodedBlockPattern.{inter_patterns, intra_patterns, pattern_at}
use Rattle.cb_tables.proofs.coded_block_pattern.pattern.Goals as goal

pub returns-then-intra : goal.returns-then-intra
unfolding pattern_at intra_patterns
returns-then-intra c = c.from.ensures ∙ ap (λ (x : Bool). pattern_at c.args.code x) (sym c.if-intra.true)

pub returns-else-intra : goal.returns-else-intra
unfolding pattern_at inter_patterns
returns-else-intra c = c.from-else-intra.ensures ∙ ap (λ (x : Bool). pattern_at c.args.code x) (sym c.if-intra.false)
