use Rattle.std.proofs.Common.{rules, ◌≡◌, ◌/◌, ◌%◌, ◌^◌, ◌++◌, ◌∙◌, SFits, w32, to_z-of_z, ap, append-nil, bit_and, sym, List, Bool, ℕ}
use Rattle.std.proofs.lemmas.Nat.{and_mask}
use Rattle.mb_syntax.proofs.BlockLemmas.{its_bits, its_spelling, luma_coded_at, luma_most_is, luma_nc_is, luma_uncoded_at, uncoded_bits}
use Rattle.mb_syntax.specs.Counts.{block_of}
use Rattle.mb_syntax.specs.Kinds.{pattern_of}
use Rattle.mb_syntax.proofs.writing_residual.put_luma_block.Goals as goal
use Rattle.mb_syntax.proofs.writing_residual.put_luma_block.Goals.{then-pattern-k-eq1+in_ok-write_block, else-pattern-k-eq1}

-- the bit of the pattern
bit : (p q k : ℕ) → p ≡ q → p / 2 ^ (k / 4) % 2 ≡ bit_and (q / 2 ^ (k / 4)) 1
bit p q k e = ap (λ (x : ℕ). x / 2 ^ (k / 4) % 2) e ∙ sym (and_mask (q / 2 ^ (k / 4)) 1)

pub write_block-requires : goal.write_block-requires
write_block-requires c =
    let fits : SFits w32 c.luma_nc.result = search rules in
    let slice = c.requires.spelling.0 in
    let before = c.requires.spelling.1 in
    let kind = c.requires.spelling.2 in
    let behind = c.requires.spelling.3 in
    let next = c.requires.spelling.4 in
    let k = c.args.k in
    let at = next.stands.size in
    rw (to_z-of_z fits) (its_spelling slice before kind behind c.luma_nc.result c.args.most
    (luma_coded_at slice before kind behind k c.requires.k at (bit (pattern_of kind) c.args.pattern k next.stands.same_pattern ∙ c.if-pattern-k-eq1.true))
    (c.luma_nc.ensures slice before behind next.stands.beside next.so_far ∙ luma_nc_is slice before kind behind k c.requires.k at)
    (sym next.most_is ∙ luma_most_is slice before kind behind k c.requires.k at) (block_of c.args.block.now) next.is)

pub returns-clause-ok : goal.returns-clause-ok
returns-clause-ok c slice before kind behind next =
    let k = c.args.k in
    let at = next.stands.size in
    let block = block_of c.args.block.now in
    let same = bit (pattern_of kind) c.args.pattern k next.stands.same_pattern in
    elim c.if-pattern-k-eq1.branch [
      | then-pattern-k-eq1+in_ok-write_block w ↦
          let fits : SFits w32 w.luma_nc.result = search rules in
          w.out-is ∙ (rw (to_z-of_z fits) at w.in_ok-write_block.ensures.ok) ∙ ap (λ (x : List Bool). c.args.out.now ++ x)
          (its_bits slice before kind behind w.luma_nc.result c.args.most (luma_coded_at slice before kind behind k c.requires.k at (same ∙ w.if-pattern-k-eq1.true))
          (w.luma_nc.ensures slice before behind next.stands.beside next.so_far ∙ luma_nc_is slice before kind behind k c.requires.k at)
          (sym next.most_is ∙ luma_most_is slice before kind behind k c.requires.k at) block)
      | else-pattern-k-eq1 w ↦
          w.out-is ∙ sym (append-nil c.args.out.now) ∙ ap (λ (x : List Bool). c.args.out.now ++ x)
          (sym (uncoded_bits slice before kind behind block (luma_uncoded_at slice before kind behind k c.requires.k at (λ e. w.if-pattern-k-eq1.false (sym same ∙ e)))))
    ]
