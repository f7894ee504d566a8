use Rattle.std.proofs.Common.{rules}
use Rattle.driver.proofs.Made.{starts}
use Rattle.driver.proofs.driver.Driver.new.Goals as goal

pub new-requires-2 : goal.new-requires-2
new-requires-2 c = starts _ (search rules)
