use Rattle.std.proofs.Common.{◌∙◌, ◌≡◌, sym, subst, ap, ℕ, ◌≤◌, arith}
use Rattle.cb_tables.specs.Codes.{IsCode}
use Rattle.cb_tables.specs.CoeffToken.{token_code}
use Rattle.cb_tables.proofs.TokenLemmas.{chroma_dc_entry, listed_entry, token_is_code}
use Rattle.cb_tables.proofs.coeff_token.token.Goals as goal

pub returns-in-3-clause-code : goal.returns-in-3-clause-code
returns-in-3-clause-code c =
    let e = c.six_bits.ensures ∙ ap (λ (x : ℕ). token_code x c.args.total c.args.ones) (sym c.in-3.is) in
    subst IsCode (sym e) (token_is_code c.args.table c.args.total c.args.ones c.requires)

pub returns-in-0-to-2-clause-entry : goal.returns-in-0-to-2-clause-entry
returns-in-0-to-2-clause-entry c = let h : c.args.table ≤ 2 = omega arith in c.code_of.ensures ∙ listed_entry c.args.table c.args.total c.args.ones h

pub returns-in-0-to-2-clause-code : goal.returns-in-0-to-2-clause-code
returns-in-0-to-2-clause-code c =
    let h : c.args.table ≤ 2 = omega arith in
    subst IsCode (sym (c.code_of.ensures ∙ listed_entry c.args.table c.args.total c.args.ones h)) (token_is_code c.args.table c.args.total c.args.ones c.requires)

pub returns-in_default-clause-entry : goal.returns-in_default-clause-entry
returns-in_default-clause-entry c =
    let h : 4 ≡ c.args.table = omega (arith, c.requires.listed) in
    c.code_of-in_default.ensures ∙ chroma_dc_entry c.args.total c.args.ones ∙ ap (λ (x : ℕ). token_code x c.args.total c.args.ones) h
