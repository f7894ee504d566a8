use Rattle.std.proofs.Common.{rules, ◌/◌, ◌∙◌, SFits, w32, to_z-of_z, ap, refl, sym, ℕ}
use Rattle.mb_syntax.proofs.BlockLemmas.{chroma_coded_at, chroma_most_is, chroma_nc_is, chroma_uncoded_at, coded_is, coded_none, none_of_zeros, uncoded_is}
use Rattle.mb_syntax.proofs.residual.read_chroma_block.Goals as goal

pub returns-in_err-read_block_into-clause-reads : goal.returns-in_err-read_block_into-clause-reads
returns-in_err-read_block_into-clause-reads c = rw c.from_residual.ensures (λ slice before kind behind s so_far.
    let fits : SFits w32 c.chroma_nc-nc.result = search rules in
    let k = c.args.k in
    let plane = c.args.plane in
    let at = s.size in
    coded_none slice before kind behind c.chroma_nc-nc.result 15 (chroma_coded_at slice before kind behind k plane c.requires.k at (ap (λ (x : ℕ). x / 16) s.same_pattern ∙ c.if-pattern-eq2.true))
    (c.chroma_nc-nc.ensures slice before behind s.beside so_far ∙ chroma_nc_is slice before kind behind k plane c.requires.k at)
    (chroma_most_is slice before kind behind k plane c.requires.k at) c.args.reader.now (rw (to_z-of_z fits) at c.in_err-read_block_into.ensures.reads.1))

pub returns-in_ok-read_block_into-clause-reads : goal.returns-in_ok-read_block_into-clause-reads
returns-in_ok-read_block_into-clause-reads c slice before kind behind s so_far =
    let fits : SFits w32 c.chroma_nc-nc.result = search rules in
    let k = c.args.k in
    let plane = c.args.plane in
    let at = s.size in
    coded_is slice before kind behind c.chroma_nc-nc.result 15 (chroma_coded_at slice before kind behind k plane c.requires.k at (ap (λ (x : ℕ). x / 16) s.same_pattern ∙ c.if-pattern-eq2.true))
    (c.chroma_nc-nc.ensures slice before behind s.beside so_far ∙ chroma_nc_is slice before kind behind k plane c.requires.k at)
    (chroma_most_is slice before kind behind k plane c.requires.k at) c.read_block_into.new.into c.args.reader.now c.read_block_into.new.reader (rw (to_z-of_z fits) at c.in_ok-read_block_into.ensures.reads)

pub returns-else-pattern-eq2-clause-reads : goal.returns-else-pattern-eq2-clause-reads
returns-else-pattern-eq2-clause-reads c slice before kind behind s so_far =
    uncoded_is slice before kind behind (chroma_uncoded_at slice before kind behind c.args.k c.args.plane c.requires.k s.size (λ e. c.if-pattern-eq2.false (ap (λ (x : ℕ). x / 16) (sym s.same_pattern) ∙ e)))
    _ refl c.args.reader.now

pub returns-else-pattern-eq2-clause-total : goal.returns-else-pattern-eq2-clause-total
returns-else-pattern-eq2-clause-total c = none_of_zeros
