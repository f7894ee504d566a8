use Rattle.std.proofs.Common.{◌≤◌, ℕ, arith}
use Rattle.bit_io.proofs.LawLemmas.{ue_prefix_free}
use Rattle.bit_io.specs.Codewords.{IsUe, ue}
use Rattle.mb_syntax.proofs.Steps.{none_behind, none_of_fewer}
use Rattle.mb_syntax.proofs.intra.read_chroma_mode.Goals as goal

abbrev IsChromaMode : ℕ → Type 0
IsChromaMode mode = mode ≤ 3

small : (mode : ℕ) → IsChromaMode mode → IsUe mode
small mode h = omega arith

pub returns-in_err-mode : goal.returns-in_err-mode
returns-in_err-mode c = rw c.from_residual.ensures (none_of_fewer IsChromaMode IsUe ue c.args.reader.now small c.in_err-mode.ensures.reads.1)

pub returns-then-mode-gt3 : goal.returns-then-mode-gt3
returns-then-mode-gt3 c = none_behind IsChromaMode IsUe ue ue_prefix_free c.args.reader.now c.read_ue.new.self c.in_ok-mode.mode c.in_ok-mode.ensures.reads.0 c.in_ok-mode.ensures.reads.1 small (λ few. omega (arith, few, c.if-mode-gt3.true))
