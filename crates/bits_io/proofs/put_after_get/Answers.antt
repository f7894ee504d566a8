use Rattle.bits_io.proofs.Same as same
use Rattle.bits_io.proofs.put_after_get.Goals as goal

pub returns : goal.returns
returns c = same.put_after_get
