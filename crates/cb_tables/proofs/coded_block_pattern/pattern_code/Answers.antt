use Rattle.std.proofs.Common.{◌∙◌, sym, ap, Bool}
use Rattle.cb_tables.specs.CodedBlockPattern.{pattern_code_at}
use Rattle.cb_tables.proofs.PatternLemmas.{inter_code, intra_code}
use Rattle.cb_tables.proofs.coded_block_pattern.pattern_code.Goals as goal

pub returns-then-intra : goal.returns-then-intra
returns-then-intra c = c.from.ensures ∙ intra_code c.args.pattern c.requires ∙ ap (λ (x : Bool). pattern_code_at c.args.pattern x) (sym c.if-intra.true)

pub returns-else-intra : goal.returns-else-intra
returns-else-intra c = c.from-else-intra.ensures ∙ inter_code c.args.pattern c.requires ∙ ap (λ (x : Bool). pattern_code_at c.args.pattern x) (sym c.if-intra.false)
