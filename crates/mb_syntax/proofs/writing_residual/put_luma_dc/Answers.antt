use Rattle.std.proofs.Common.{rules, ◌≡◌, ◌++◌, ◌∙◌, OnOk, SFits, w32, to_z-of_z, ap, append-nil, arith, subst, sym, List, Bool, []}
use Rattle.mb_syntax.proofs.BlockLemmas.{first_coded, first_most, first_nc, its_bits, its_spelling, uncoded_bits}
use Rattle.mb_syntax.proofs.writing_residual.put_luma_dc.Goals as goal

pub returns-then-not-coded-clause-ok : goal.returns-then-not-coded-clause-ok
returns-then-not-coded-clause-ok c slice before kind first =
    sym (append-nil c.args.out.now)
    ∙ ap (λ (x : List Bool). c.args.out.now ++ x) (sym (uncoded_bits slice before kind [] c.args.block.now (first_coded slice before kind [] 0 ∙ first.same ∙ c.if-not-coded.true)))

pub write_block-requires : goal.write_block-requires
write_block-requires c =
    let fits : SFits w32 c.luma_nc.result = search rules in
    let slice = c.requires.0 in
    let before = c.requires.1 in
    let kind = c.requires.2 in
    let first = c.requires.3 in
    rw (to_z-of_z fits) (its_spelling slice before kind [] c.luma_nc.result 16 (first_coded slice before kind [] 0 ∙ first.same ∙ c.if-not-coded.false)
    (c.luma_nc.ensures slice before [] first.beside (λ block none. absurd (omega (arith, none))) ∙ sym (first_nc slice before kind [] 0))
    (sym (first_most slice before kind [] 0)) c.args.block.now first.is)

pub returns-clause-ok : goal.returns-clause-ok
returns-clause-ok c slice before kind first =
    let fits : SFits w32 c.luma_nc.result = search rules in
    subst (λ (x : List Bool). OnOk c.write_block.result (c.write_block.new.out ≡ c.args.out.now ++ x))
    (its_bits slice before kind [] c.luma_nc.result 16 (first_coded slice before kind [] 0 ∙ first.same ∙ c.if-not-coded.false)
    (c.luma_nc.ensures slice before [] first.beside (λ block none. absurd (omega (arith, none))) ∙ sym (first_nc slice before kind [] 0))
    (sym (first_most slice before kind [] 0)) c.args.block.now)
    (rw (to_z-of_z fits) at c.write_block.ensures.ok)
