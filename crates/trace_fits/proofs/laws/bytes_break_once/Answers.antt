use Rattle.trace_fits.proofs.Ahead.{break_once, dont_break, one_count}
use Rattle.trace_fits.proofs.laws.bytes_break_once.Goals as goal

pub returns : goal.returns
returns c = record { once = break_once; nowhere = dont_break; count = one_count }
