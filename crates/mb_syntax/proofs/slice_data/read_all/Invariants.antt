use Rattle.std.proofs.Common.{◌≡◌, ◌≤◌, drop, length, take}
use Rattle.mb_syntax.specs.MacroblockLayer.{place_before}
use Rattle.mb_syntax.specs.Progress.{IsReadOn}
use Rattle.mb_syntax.specs.SliceData.{start}
use Rattle.mb_syntax.proofs.slice_data.read_all.Given as goal

abbrev pub invariant-loop-columns : goal.invariant-loop-columns
invariant-loop-columns l =
    (l.count ≤ l.slice.left) × (drop l.count l.into ≡ drop l.count l.fn.into)
    × IsReadOn l.slice (start (place_before l.fn.reader)) l.fn.reader (take l.count l.into) l.reader l.columns l.count

abbrev pub decreases-loop-columns : goal.decreases-loop-columns
decreases-loop-columns l = length l.reader
