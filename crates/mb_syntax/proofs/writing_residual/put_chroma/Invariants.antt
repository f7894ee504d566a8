use Rattle.std.proofs.Common.{◌≡◌, ◌++◌, List, ℤ, map, take, length}
use Rattle.cb_types.specs.declared.macroblock.Macroblock.{Macroblock}
use Rattle.cb_types.specs.declared.macroblock.MbKind.{MbKind}
use Rattle.mb_syntax.specs.Counts.{block_of}
use Rattle.mb_syntax.specs.Stretches.{AreChroma, AreTotals, bits_behind}
use Rattle.mb_syntax.specs.declared.slice.Slice.{Slice}
use Rattle.mb_syntax.proofs.writing_residual.put_chroma.Given as goal

abbrev pub invariant-loop-k : goal.invariant-loop-k
invariant-loop-k l = record {
  size : length l.counts ≡ 4;
  totals : AreTotals (take l.k (map block_of l.ac)) l.counts l.k;
  written : (slice : Slice) (before : List Macroblock) (kind : MbKind) (behind : List (List ℤ)) → AreChroma slice before kind behind l.around l.pattern l.plane (map block_of l.ac)
      → l.out ≡ l.initial.out ++ bits_behind slice before kind behind (take l.k (map block_of l.ac));
}
