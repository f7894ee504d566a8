use Rattle.std.proofs.Common.{◌≡◌, take}
use Rattle.call_trace.specs.Recorded.{all_kept}
use Rattle.call_trace.proofs.merging.gather.Given as goal

abbrev pub invariant-loop-recorder : goal.invariant-loop-recorder
invariant-loop-recorder l = l.records.items ≡ all_kept (take l.recorder-index l.recorders)
