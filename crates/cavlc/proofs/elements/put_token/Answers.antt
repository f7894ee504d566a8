use Rattle.std.proofs.Common.{rules, ◌≡◌, ◌++◌, ◌∙◌, OnOk, SFits, w32, ap, subst, to_z-of_z}
use Rattle.cb_tables.specs.CoeffToken.{token_code}
use Rattle.cavlc.specs.Blocks.{code_bits, token_bits, token_list}
use Rattle.cavlc.proofs.elements.put_token.Goals as goal

pub returns-clause-ok : goal.returns-clause-ok
unfolding token_bits
returns-clause-ok c =
    let fits : SFits w32 c.args.nc = search rules in
    let list = c.list_of.ensures ∙ ap token_list (to_z-of_z fits) in
    let word = ap code_bits (c.token.ensures.entry ∙ ap (λ l. token_code l c.args.total c.args.ones) list) in
    subst (λ x. OnOk c.put_code.result (c.put_code.new.out ≡ c.args.out.now ++ x)) word c.put_code.ensures.ok
