use Rattle.std.proofs.Common.{◌≡◌, ℕ, List, vec_len}
use Rattle.std.specs.declared.option.Option.{Option}
use Rattle.std.specs.Io.KnownBytes.{Appends}
use Rattle.output_order.specs.OutputOrder.{History}
use Rattle.accepted_pictures.specs.Files.{Decoded}
use Rattle.vdplay.specs.Reports.{Holds, planes_out, with_out}
use Rattle.vdplay.proofs.plane_writer.PlaneWriter.write_settled.Given as goal

-- some more have come out, and were written
abbrev pub invariant-loop-samples : goal.invariant-loop-samples
invariant-loop-samples g l =
    (l.self.count ≡ l.fn.self.count)
    × (g.K.Sink.faults l.sink ≡ g.K.Sink.faults l.fn.sink)
    × ((decoded : List Decoded) (h : History) (start : Option (List ℕ)) → Holds l.fn.self decoded h → Appends start (g.K.Sink.written l.fn.sink) (planes_out decoded h)
    → (out : List ℕ) × Holds l.self decoded (with_out h out) × Appends start (g.K.Sink.written l.sink) (planes_out decoded (with_out h out)))

abbrev pub decreases-loop-samples : goal.decreases-loop-samples
decreases-loop-samples g l = vec_len l.self.held
