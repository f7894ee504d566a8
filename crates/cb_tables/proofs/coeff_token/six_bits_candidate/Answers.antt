use Rattle.std.proofs.Common.{◌/◌, ◌^◌, arith, inl, inr}
use Rattle.cb_tables.specs.CoeffToken.{token_code}
use Rattle.cb_tables.proofs.TokenLemmas.{six_bits_only}
use Rattle.cb_tables.proofs.coeff_token.six_bits_candidate.Goals as goal

pub returns-then-value-eq3-clause-only : goal.returns-then-value-eq3-clause-only
unfolding token_code
returns-then-value-eq3-clause-only c total ones is begins =
    elim (six_bits_only total ones (c.args.window / 2 ^ 26) is begins) [ inl a ↦ (a.1, a.2) | inr a ↦ absurd (a.0 c.if-value-eq3.true) ]

pub returns-clause-only : goal.returns-clause-only
unfolding token_code
returns-clause-only c total ones is begins =
    elim (six_bits_only total ones (c.args.window / 2 ^ 26) is begins) [
      | inl a ↦ absurd (c.if-value-eq3.false a.0)
      | inr a ↦ (a.1, omega (arith, c.min.ensures, a.1, a.2, is.trailing))
    ]
