use Rattle.std.proofs.Common.{◌≡◌, ◌+◌, ◌<◌, ◌∙◌, ◌++◌, length, List, ℤ, arith, ap, ap₂, map, set, subst, sym, take, ℕ, refl}
use Rattle.std.proofs.lemmas.List.{length-append, length-map, length-set}
use Rattle.cavlc.specs.Turns.{AreInTurn}
use Rattle.mb_syntax.proofs.BlockLemmas.{all_taken, counted_all, length-taken, chroma_so_far, more_read, none_more, nothing_read, taken, totals_more}
use Rattle.mb_syntax.specs.Blocks.{IsNextBlock, block_behind}
use Rattle.mb_syntax.specs.Counts.{block_of, chroma_place}
use Rattle.mb_syntax.specs.Stretches.{AreTotals, Stands, bits_behind}
use Rattle.mb_syntax.proofs.residual.read_chroma.Goals as goal

pub loop-k-init : goal.loop-k-init
loop-k-init c = record {
  size = refl;
  long = c.told-ac;
  totals = λ block none. absurd (omega (arith, none));
  read = λ slice before kind behind s. nothing_read slice before kind behind c.args.reader.now;
}

pub returns-in_err-counts-clause-reads : goal.returns-in_err-counts-clause-reads
returns-in_err-counts-clause-reads c = rw c.from_residual.ensures (λ slice before kind behind s.
    let read = take c.loop-k.k (map block_of c.loop-k.ac) in
    let long : length read ≡ c.loop-k.k = length-taken c.loop-k.ac c.loop-k.k (omega (arith, c.loop-k.invariant.long)) in
    let so_far = c.loop-k.invariant.read slice before kind behind s in
    let stands : Stands slice before kind c.args.around.now c.args.pattern (behind ++ read) (chroma_place c.args.plane c.loop-k.k) = record {
      beside = s.beside;
      same_pattern = s.same_pattern;
      size = length-append behind read ∙ ap₂ (λ (x y : ℕ). x + y) s.size long;
    } in
    none_more slice before kind behind read 4 c.args.reader.now c.loop-k.reader (omega (arith, long)) so_far.0 so_far.1
    (c.in_err-counts.ensures.reads slice before kind (behind ++ read) stands (chroma_so_far behind read c.args.plane c.loop-k.counts c.loop-k.k s.size c.loop-k.invariant.totals)))

pub loop-k-preserved : goal.loop-k-preserved
loop-k-preserved c =
    let k = c.loop-k.k in
    let items = c.loop-k.ac in
    let read = take k (map block_of items) in
    let block = c.read_chroma_block.new.block in
    let inside : k < length items = omega (arith, c.loop-k.invariant.long) in
    let long : length read ≡ k = length-taken items k inside in
    let more = taken items k block inside in
    record {
      size = length-set c.loop-k.counts k c.in_ok-counts.field-0 ∙ c.loop-k.invariant.size;
      long = length-set items k block ∙ c.loop-k.invariant.long;
      totals = subst (λ (xs : List (List ℤ)). AreTotals xs (set c.loop-k.counts k c.in_ok-counts.field-0) (k + 1)) (sym more)
          (totals_more read c.loop-k.counts k c.in_ok-counts.field-0 (block_of block) c.loop-k.invariant.totals long (omega (arith, c.loop-k.invariant.size)) c.in_ok-counts.ensures.total);
      read = λ slice before kind behind s.
          let so_far = c.loop-k.invariant.read slice before kind behind s in
          let stands : Stands slice before kind c.args.around.now c.args.pattern (behind ++ read) (chroma_place c.args.plane k) = record {
            beside = s.beside;
            same_pattern = s.same_pattern;
            size = length-append behind read ∙ ap₂ (λ (x y : ℕ). x + y) s.size long;
          } in
          let next = c.in_ok-counts.ensures.reads slice before kind (behind ++ read) stands (chroma_so_far behind read c.args.plane c.loop-k.counts k s.size c.loop-k.invariant.totals) in
          subst (λ (xs : List (List ℤ)). AreInTurn (IsNextBlock slice before kind) block_behind behind xs × (c.args.reader.now ≡ bits_behind slice before kind behind xs ++ c.read_chroma_block.new.reader)) (sym more)
          (more_read slice before kind behind read (block_of block) c.args.reader.now c.loop-k.reader c.read_chroma_block.new.reader so_far.0 so_far.1 next.0 next.1);
    }

pub returns-clause-reads : goal.returns-clause-reads
returns-clause-reads c slice before kind behind s =
    let read = c.loop-k.invariant.read slice before kind behind s in
    let all = all_taken c.loop-k.ac c.loop-k.k (omega (arith, c.loop-k.invariant.long)) in (
      record {
        size = length-map c.loop-k.ac block_of ∙ c.loop-k.invariant.long;
        each = subst (λ (xs : List (List ℤ)). AreInTurn (IsNextBlock slice before kind) block_behind behind xs) all read.0;
      },
      read.1 ∙ ap (λ (xs : List (List ℤ)). bits_behind slice before kind behind xs ++ c.loop-k.reader) all,
    )

pub returns-clause-counts : goal.returns-clause-counts
returns-clause-counts c = record {
  size = length-map c.loop-k.ac block_of ∙ c.loop-k.invariant.long;
  totals = counted_all c.loop-k.ac c.loop-k.counts c.loop-k.k 4 c.loop-k.invariant.long (omega arith) c.loop-k.invariant.totals;
}
