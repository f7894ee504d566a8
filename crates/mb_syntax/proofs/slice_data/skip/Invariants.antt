use Rattle.std.proofs.Common.{◌≡◌, ◌-◌, List, ◌++◌, drop, length, replicate, take}
use Rattle.cb_types.specs.declared.macroblock.Macroblock.{Macroblock}
use Rattle.mb_syntax.specs.Around.{AreColumns}
use Rattle.mb_syntax.specs.SliceData.{skipped}
use Rattle.mb_syntax.proofs.slice_data.skip.Given as goal

abbrev pub invariant-loop-k : goal.invariant-loop-k
invariant-loop-k l =
    (take l.k l.into ≡ take l.first l.fn.into ++ replicate (l.k - l.first) skipped)
    × (drop l.end l.into ≡ drop l.end l.fn.into)
    × ((before : List Macroblock) → length before ≡ l.first → AreColumns l.slice before l.fn.columns → AreColumns l.slice (before ++ replicate (l.k - l.first) skipped) l.columns)
