use Rattle.cb_tables.proofs.PatternLemmas.{code_undone, pattern_undone}
use Rattle.cb_tables.proofs.laws.patterns_are_inverse.Goals as goal

pub returns : goal.returns
returns c = record { of_code = code_undone; of_pattern = pattern_undone }
