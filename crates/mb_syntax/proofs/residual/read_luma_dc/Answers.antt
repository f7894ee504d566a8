use Rattle.std.proofs.Common.{rules, ◌∙◌, SFits, w32, to_z-of_z, arith, refl, sym, []}
use Rattle.mb_syntax.proofs.BlockLemmas.{coded_is, coded_none, first_coded, first_most, first_nc, uncoded_is}
use Rattle.mb_syntax.proofs.residual.read_luma_dc.Goals as goal

pub returns-in_err-read_block_into : goal.returns-in_err-read_block_into
returns-in_err-read_block_into c = rw c.from_residual.ensures (λ slice before kind beside same.
    let fits : SFits w32 c.luma_nc-nc.result = search rules in
    coded_none slice before kind [] c.luma_nc-nc.result 16 (first_coded slice before kind [] 0 ∙ same ∙ c.if-coded.true)
    (c.luma_nc-nc.ensures slice before [] beside (λ block none. absurd (omega (arith, none))) ∙ sym (first_nc slice before kind [] 0))
    (sym (first_most slice before kind [] 0)) c.args.reader.now (rw (to_z-of_z fits) at c.in_err-read_block_into.ensures.reads.1))

pub returns-in_ok-read_block_into : goal.returns-in_ok-read_block_into
returns-in_ok-read_block_into c slice before kind beside same =
    let fits : SFits w32 c.luma_nc-nc.result = search rules in
    coded_is slice before kind [] c.luma_nc-nc.result 16 (first_coded slice before kind [] 0 ∙ same ∙ c.if-coded.true)
    (c.luma_nc-nc.ensures slice before [] beside (λ block none. absurd (omega (arith, none))) ∙ sym (first_nc slice before kind [] 0))
    (sym (first_most slice before kind [] 0)) c.read_block_into.new.into c.args.reader.now c.read_block_into.new.reader (rw (to_z-of_z fits) at c.in_ok-read_block_into.ensures.reads)

pub returns-else-coded : goal.returns-else-coded
returns-else-coded c slice before kind beside same =
    uncoded_is slice before kind [] (first_coded slice before kind [] 0 ∙ same ∙ c.if-coded.false) _ refl c.args.reader.now
