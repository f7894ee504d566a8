use Rattle.std.proofs.Common.{◌≡◌, ◌<◌, ◌⊎◌, true, arith, slice_index, inl, inr}
use Rattle.bit_io.specs.Payload.{follows_zeros}
use Rattle.bit_io.proofs.Allowed.{clear_step}
use Rattle.bit_io.proofs.Zeros.{above_zero, zeros_before}
use Rattle.bit_io.proofs.emulation.next_suspect.Goals as goal
use Rattle.bit_io.proofs.emulation.next_suspect.Goals.{then-byte-eq0, else-byte-eq0, else-byte-le3-via-then-byte-le3+then-unit-i-eq0+else-unit-i-eq0-2, else-byte-le3-via-then-byte-le3+else-unit-i-eq0, else-byte-le3-via-else-byte-le3}

pub loop-i-preserved : goal.loop-i-preserved
loop-i-preserved c =
    let i = c.loop-i.i in
    let unit = c.args.unit.now in
    let high : follows_zeros unit i ≡ true → 3 < slice_index unit i =
    λ zeros.
    let is = zeros_before unit i zeros in
    elim c.else-byte-le3.branch [
      | else-byte-le3-via-then-byte-le3+then-unit-i-eq0+else-unit-i-eq0-2 w ↦ absurd (w.if-unit-i-eq0-2.false is.1)
      | else-byte-le3-via-then-byte-le3+else-unit-i-eq0 w ↦ absurd (w.if-unit-i-eq0.false is.2)
      | else-byte-le3-via-else-byte-le3 w ↦ omega arith
    ]
    in
    let step : (c.if-byte-eq0.i ≡ 1) ⊎ ((c.if-byte-eq0.i ≡ 3) × (0 < slice_index unit i)) =
    elim c.if-byte-eq0.branch [
      | then-byte-eq0 w ↦ inl w.i-is
      | else-byte-eq0 w ↦ inr (w.i-is, above_zero (slice_index unit i) w.if-byte-eq0.false)
    ]
    in
    (omega arith, omega arith, clear_step unit c.args.start i c.if-byte-eq0.i c.loop-i.invariant.2 high step)
