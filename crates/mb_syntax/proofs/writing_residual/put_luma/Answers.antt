use Rattle.std.proofs.Common.{◌≡◌, ◌+◌, ◌<◌, ◌++◌, ◌∙◌, [], List, ℤ, ℕ, ap, ap₂, arith, get_or, length, map, refl, subst, sym, take}
use Rattle.std.proofs.lemmas.List.{get_or-map, length-append, length-map, length-set, length-take-le}
use Rattle.cavlc.specs.Coefficients.{total_coeff}
use Rattle.cb_types.specs.declared.macroblock.Levels.{Levels}
use Rattle.cb_types.specs.declared.macroblock.Macroblock.{Macroblock}
use Rattle.cb_types.specs.declared.macroblock.MbKind.{MbKind}
use Rattle.mb_syntax.proofs.BlockLemmas.{luma_so_far, next_at, nothing_written, totals_next, written_at}
use Rattle.mb_syntax.specs.Blocks.{IsNextBlock, next_block_bits}
use Rattle.mb_syntax.specs.Counts.{block_of}
use Rattle.mb_syntax.specs.Stretches.{AreLuma, AreTotals, IsNextLuma}
use Rattle.mb_syntax.specs.declared.counts.Around.{Around}
use Rattle.mb_syntax.specs.declared.slice.Slice.{Slice}
use Rattle.mb_syntax.proofs.writing_residual.put_luma.Goals as goal

-- the next of the blocks
next : (slice : Slice) (before : List Macroblock) (kind : MbKind) (behind : List (List ℤ)) (around : Around) (pattern most : ℕ) (items : List Levels) (counts : List ℕ) (k : ℕ) (d : Levels)
    → k < 16 → length items ≡ 16 → AreTotals (take k (map block_of items)) counts k → AreLuma slice before kind behind around pattern most (map block_of items)
    → IsNextLuma slice before kind (behind ++ take k (map block_of items)) around pattern most counts k (block_of (get_or items k d))
next slice before kind behind around pattern most items counts k d below long totals are =
    let read = take k (map block_of items) in
    record {
      stands = record {
        beside = are.stands.beside;
        same_pattern = are.stands.same_pattern;
        size = length-append behind read ∙ ap₂ (λ (x y : ℕ). x + y) are.stands.size (length-take-le k (map block_of items) (omega (arith, length-map items block_of, long)));
      };
      most_is = are.most_is;
      so_far = luma_so_far behind read counts k are.stands.size totals;
      is = subst (λ (x : List ℤ). IsNextBlock slice before kind (behind ++ read) x) (get_or-map block_of items k d [] (omega (arith, long)))
          (next_at slice before kind behind (map block_of items) 16 k are.are below);
    }

pub loop-k-init : goal.loop-k-init
loop-k-init c = record {
  size = refl;
  totals = λ block none. absurd (omega (arith, none));
  written = λ slice before kind behind are. nothing_written slice before kind behind c.args.out.now;
}

pub put_luma_block-requires-clause-spelling : goal.put_luma_block-requires-clause-spelling
put_luma_block-requires-clause-spelling c =
    let s = c.requires.spelling in
    let missing : Levels = record { 0 = [] } in
    let k = c.loop-k.k in
    let luma = c.args.luma.now in
    (s.0, s.1, s.2, s.3 ++ take k (map block_of luma), next s.0 s.1 s.2 s.3 c.args.around.now c.args.pattern c.args.most luma c.loop-k.counts k missing (omega (arith, c.told-luma)) c.told-luma c.loop-k.invariant.totals s.4)

pub loop-k-preserved : goal.loop-k-preserved
loop-k-preserved c =
    let missing : Levels = record { 0 = [] } in
    let k = c.loop-k.k in
    let luma = c.args.luma.now in
    let vs = map block_of luma in
    let below : k < 16 = omega (arith, c.told-luma) in
    let same = get_or-map block_of luma k missing [] (omega (arith, c.told-luma)) in
    record {
      size = length-set c.loop-k.counts k c.in_ok-counts.field-0 ∙ c.loop-k.invariant.size;
      totals = totals_next vs c.loop-k.counts k c.in_ok-counts.field-0 c.loop-k.invariant.totals (omega (arith, length-map luma block_of, c.told-luma)) (omega (arith, c.loop-k.invariant.size))
          (c.in_ok-counts.ensures.total ∙ ap total_coeff (sym same));
      written = λ slice before kind behind are.
          let behind_k = behind ++ take k vs in
          let put = c.in_ok-counts.ensures.ok slice before kind behind_k (next slice before kind behind c.args.around.now c.args.pattern c.args.most luma c.loop-k.counts k missing below c.told-luma c.loop-k.invariant.totals are) in
          written_at slice before kind behind vs 16 k are.are below c.args.out.now c.loop-k.out c.put_luma_block.new.out (c.loop-k.invariant.written slice before kind behind are)
          (put ∙ ap (λ (x : List ℤ). c.loop-k.out ++ next_block_bits slice before kind behind_k x) (sym same));
    }
