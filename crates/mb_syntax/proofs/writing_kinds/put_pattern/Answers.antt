use Rattle.mb_syntax.proofs.IntraLemmas.{code-IsUe}
use Rattle.mb_syntax.proofs.writing_kinds.put_pattern.Goals as goal

pub put_ue-requires : goal.put_ue-requires
put_ue-requires c = code-IsUe c.args.pattern c.pattern_code.result c.args.intra c.requires c.pattern_code.ensures
