use Rattle.mb_syntax.proofs.ReadLemmas.{reads_back}
use Rattle.mb_syntax.proofs.laws.slice_data_reads_back.Goals as goal

pub returns : goal.returns
returns c = record { back = reads_back }
