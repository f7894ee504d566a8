use Rattle.std.proofs.Common.{◌<◌, sym, ◌∙◌, length, arith}
use Rattle.marking.proofs.FrameLemmas.{next_number}
use Rattle.marking.proofs.frames.Frames.free_number.Goals as goal

pub loop-number-preserved : goal.loop-number-preserved
loop-number-preserved c =
    let inside : c.loop-number.number < length c.args.self.now = omega (arith, c.loop-number-test.true, c.len-count.ensures.value) in
    sym (next_number c.args.self.now (length c.args.self.now) c.loop-number.number inside (sym c.if-not-has_number.ensures)) ∙ c.loop-number.invariant
