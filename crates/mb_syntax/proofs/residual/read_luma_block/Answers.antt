use Rattle.std.proofs.Common.{rules, ◌≡◌, ◌/◌, ◌%◌, ◌^◌, ◌∙◌, SFits, w32, to_z-of_z, ap, bit_and, refl, sym, ℕ}
use Rattle.std.proofs.lemmas.Nat.{and_mask}
use Rattle.mb_syntax.proofs.BlockLemmas.{coded_is, coded_none, luma_coded_at, luma_most_is, luma_nc_is, luma_uncoded_at, none_of_zeros, uncoded_is}
use Rattle.mb_syntax.specs.Kinds.{pattern_of}
use Rattle.mb_syntax.proofs.residual.read_luma_block.Goals as goal

-- the bit of the pattern
bit : (p q k : ℕ) → p ≡ q → p / 2 ^ (k / 4) % 2 ≡ bit_and (q / 2 ^ (k / 4)) 1
bit p q k e = ap (λ (x : ℕ). x / 2 ^ (k / 4) % 2) e ∙ sym (and_mask (q / 2 ^ (k / 4)) 1)

pub returns-in_err-read_block_into-clause-reads : goal.returns-in_err-read_block_into-clause-reads
returns-in_err-read_block_into-clause-reads c = rw c.from_residual.ensures (λ slice before kind behind s m so_far.
    let fits : SFits w32 c.luma_nc-nc.result = search rules in
    let k = c.args.k in
    let at = s.size in
    coded_none slice before kind behind c.luma_nc-nc.result c.args.most (luma_coded_at slice before kind behind k c.requires.k at (bit (pattern_of kind) c.args.pattern k s.same_pattern ∙ c.if-pattern-k-eq1.true))
    (c.luma_nc-nc.ensures slice before behind s.beside so_far ∙ luma_nc_is slice before kind behind k c.requires.k at)
    (sym m ∙ luma_most_is slice before kind behind k c.requires.k at) c.args.reader.now (rw (to_z-of_z fits) at c.in_err-read_block_into.ensures.reads.1))

pub returns-in_ok-read_block_into-clause-reads : goal.returns-in_ok-read_block_into-clause-reads
returns-in_ok-read_block_into-clause-reads c slice before kind behind s m so_far =
    let fits : SFits w32 c.luma_nc-nc.result = search rules in
    let k = c.args.k in
    let at = s.size in
    coded_is slice before kind behind c.luma_nc-nc.result c.args.most (luma_coded_at slice before kind behind k c.requires.k at (bit (pattern_of kind) c.args.pattern k s.same_pattern ∙ c.if-pattern-k-eq1.true))
    (c.luma_nc-nc.ensures slice before behind s.beside so_far ∙ luma_nc_is slice before kind behind k c.requires.k at)
    (sym m ∙ luma_most_is slice before kind behind k c.requires.k at) c.read_block_into.new.into c.args.reader.now c.read_block_into.new.reader (rw (to_z-of_z fits) at c.in_ok-read_block_into.ensures.reads)

pub returns-else-pattern-k-eq1-clause-reads : goal.returns-else-pattern-k-eq1-clause-reads
returns-else-pattern-k-eq1-clause-reads c slice before kind behind s m so_far =
    uncoded_is slice before kind behind (luma_uncoded_at slice before kind behind c.args.k c.requires.k s.size (λ e. c.if-pattern-k-eq1.false (sym (bit (pattern_of kind) c.args.pattern c.args.k s.same_pattern) ∙ e)))
    _ refl c.args.reader.now

pub returns-else-pattern-k-eq1-clause-total : goal.returns-else-pattern-k-eq1-clause-total
returns-else-pattern-k-eq1-clause-total c = none_of_zeros
