use Rattle.cb_tables.proofs.RunLemmas.{run_is_code}
use Rattle.cb_tables.proofs.TokenLemmas.{token_is_code}
use Rattle.cb_tables.proofs.ZerosLemmas.{dc_code, zeros_code}
use Rattle.cb_tables.proofs.laws.codes_are_spelled.Goals as goal

pub returns : goal.returns
returns c = record { coeff_token = token_is_code; total_zeros = zeros_code; dc_zeros = dc_code; run_before = run_is_code }
