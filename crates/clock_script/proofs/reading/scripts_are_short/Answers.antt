use Rattle.clock_script.proofs.ShortScripts as short
use Rattle.clock_script.proofs.reading.scripts_are_short.Goals as goal

pub returns : goal.returns
returns c = short.scripts_are_short
