use Rattle.std.proofs.Common.{arith}
use Rattle.clock_script.proofs.OneAnswer as answer
use Rattle.clock_script.proofs.reading.have_one_answer.Goals as goal

pub returns : goal.returns
returns c = answer.have_one_answer c.args.streams (omega (arith, c.ranges.streams.fits))
