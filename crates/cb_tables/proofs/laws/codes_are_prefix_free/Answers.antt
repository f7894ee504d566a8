use Rattle.cb_tables.proofs.RunLemmas.{run_front}
use Rattle.cb_tables.proofs.TokenLemmas.{token_front}
use Rattle.cb_tables.proofs.ZerosLemmas.{dc_front, zeros_front}
use Rattle.cb_tables.proofs.laws.codes_are_prefix_free.Goals as goal

pub returns : goal.returns
returns c = record { coeff_token = token_front; total_zeros = zeros_front; dc_zeros = dc_front; run_before = run_front }
