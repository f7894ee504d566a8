use Rattle.std.proofs.Common.{rules, ◌/◌, ◌++◌, ◌∙◌, SFits, w32, to_z-of_z, ap, append-nil, sym, List, Bool, ℕ}
use Rattle.mb_syntax.proofs.BlockLemmas.{chroma_coded_at, chroma_most_is, chroma_nc_is, chroma_uncoded_at, its_bits, its_spelling, uncoded_bits}
use Rattle.mb_syntax.specs.Counts.{block_of}
use Rattle.mb_syntax.proofs.writing_residual.put_chroma_block.Goals as goal
use Rattle.mb_syntax.proofs.writing_residual.put_chroma_block.Goals.{then-pattern-eq2+in_ok-write_block, else-pattern-eq2}

pub write_block-requires : goal.write_block-requires
write_block-requires c =
    let fits : SFits w32 c.chroma_nc.result = search rules in
    let slice = c.requires.spelling.0 in
    let before = c.requires.spelling.1 in
    let kind = c.requires.spelling.2 in
    let behind = c.requires.spelling.3 in
    let next = c.requires.spelling.4 in
    let k = c.args.k in
    let plane = c.args.plane in
    let at = next.stands.size in
    rw (to_z-of_z fits) (its_spelling slice before kind behind c.chroma_nc.result 15
    (chroma_coded_at slice before kind behind k plane c.requires.k at (ap (λ (x : ℕ). x / 16) next.stands.same_pattern ∙ c.if-pattern-eq2.true))
    (c.chroma_nc.ensures slice before behind next.stands.beside next.so_far ∙ chroma_nc_is slice before kind behind k plane c.requires.k at)
    (chroma_most_is slice before kind behind k plane c.requires.k at) (block_of c.args.block.now) next.is)

pub returns-clause-ok : goal.returns-clause-ok
returns-clause-ok c slice before kind behind next =
    let k = c.args.k in
    let plane = c.args.plane in
    let at = next.stands.size in
    let block = block_of c.args.block.now in
    let same = ap (λ (x : ℕ). x / 16) next.stands.same_pattern in
    elim c.if-pattern-eq2.branch [
      | then-pattern-eq2+in_ok-write_block w ↦
          let fits : SFits w32 w.chroma_nc.result = search rules in
          w.out-is ∙ (rw (to_z-of_z fits) at w.in_ok-write_block.ensures.ok) ∙ ap (λ (x : List Bool). c.args.out.now ++ x)
          (its_bits slice before kind behind w.chroma_nc.result 15 (chroma_coded_at slice before kind behind k plane c.requires.k at (same ∙ w.if-pattern-eq2.true))
          (w.chroma_nc.ensures slice before behind next.stands.beside next.so_far ∙ chroma_nc_is slice before kind behind k plane c.requires.k at)
          (chroma_most_is slice before kind behind k plane c.requires.k at) block)
      | else-pattern-eq2 w ↦
          w.out-is ∙ sym (append-nil c.args.out.now) ∙ ap (λ (x : List Bool). c.args.out.now ++ x)
          (sym (uncoded_bits slice before kind behind block (chroma_uncoded_at slice before kind behind k plane c.requires.k at (λ e. w.if-pattern-eq2.false (sym same ∙ e)))))
    ]
