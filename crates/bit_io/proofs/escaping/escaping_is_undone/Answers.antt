use Rattle.bit_io.proofs.EscapeLemmas.{payload-escaped, escaped-IsEscaped, escaped-payload}
use Rattle.bit_io.proofs.escaping.escaping_is_undone.Goals as goal

pub returns : goal.returns
returns c = record { payload = payload-escaped; form = escaped-IsEscaped; unit = escaped-payload }
