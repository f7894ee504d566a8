use Rattle.mb_syntax.proofs.ReadLemmas.{one_slice_data}
use Rattle.mb_syntax.proofs.laws.slice_data_is_unique.Goals as goal

pub returns : goal.returns
returns c = record { one = one_slice_data }
