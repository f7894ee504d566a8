use Rattle.std.proofs.Common.{rules}
use Rattle.vdplay.proofs.RunLemmas.{long_of}
use Rattle.vdplay.proofs.file_run.is_too_long.Goals as goal

pub returns-clause-long : goal.returns-clause-long
returns-clause-long g c = long_of _ c.in_ok-n.n _ _ (search rules) c.in_ok-n.ensures.bytes
