use Rattle.std.proofs.Common.{◌≡◌, ◌++◌, ◌+◌, ◌*◌, List, ℤ, map, take, length}
use Rattle.cavlc.specs.Turns.{AreInTurn}
use Rattle.cb_types.specs.declared.macroblock.Macroblock.{Macroblock}
use Rattle.cb_types.specs.declared.macroblock.MbKind.{MbKind}
use Rattle.mb_syntax.specs.Blocks.{IsNextBlock, block_behind}
use Rattle.mb_syntax.specs.Counts.{block_of}
use Rattle.mb_syntax.specs.Stretches.{AreTotals, Stands, bits_behind}
use Rattle.mb_syntax.specs.declared.slice.Slice.{Slice}
use Rattle.mb_syntax.proofs.residual.read_chroma.Given as goal

abbrev pub invariant-loop-k : goal.invariant-loop-k
invariant-loop-k l = record {
  size : length l.counts ≡ 4;
  long : length l.ac ≡ 4;
  totals : AreTotals (take l.k (map block_of l.ac)) l.counts l.k;
  read : (slice : Slice) (before : List Macroblock) (kind : MbKind) (behind : List (List ℤ)) → Stands slice before kind l.around l.pattern behind (19 + 4 * l.plane)
      → AreInTurn (IsNextBlock slice before kind) block_behind behind (take l.k (map block_of l.ac))
      × (l.initial.reader ≡ bits_behind slice before kind behind (take l.k (map block_of l.ac)) ++ l.reader);
}
