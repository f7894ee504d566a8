use Rattle.std.proofs.Common.{rules}
use Rattle.vdplay.proofs.exit.ExitDisplay.fmt.Goals as goal

pub returns-in-BadStream-clause-writes : goal.returns-in-BadStream-clause-writes
returns-in-BadStream-clause-writes g c = rw c.in-BadStream.is (search rules)
