use Rattle.std.proofs.Common.{◌≡◌, take, drop}
use Rattle.marking.specs.Operations.{HasIndices, operated_by_all}
use Rattle.marking.proofs.operations.operated_by_all.Given as goal

abbrev pub invariant-loop-place : goal.invariant-loop-place
invariant-loop-place l = record {
  indices : HasIndices l.done;
  value : operated_by_all l.numbers (drop l.place (take l.count l.operations)) l.done ≡ operated_by_all l.numbers (take l.count l.operations) l.initial.done;
}
