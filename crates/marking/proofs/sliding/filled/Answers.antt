use Rattle.std.proofs.Common.{◌+◌, ◌%◌, ◌<◌, sym, ◌∙◌, arith}
use Rattle.marking.proofs.FrameLemmas.{fill_more}
use Rattle.marking.proofs.sliding.filled.Goals as goal

pub loop-i-preserved : goal.loop-i-preserved
loop-i-preserved c =
    let before = c.loop-i.invariant in
    let n = c.loop-i.current in
    let some : 0 < n.max_frame_num = omega (arith, before.max, c.requires.some) in
    let below : (n.frame_num + 1) % n.max_frame_num < n.max_frame_num = omega arith in
    record {
      max = before.max;
      most = before.most;
      below = omega (arith, below, before.max);
      value = sym (fill_more c.args.missing c.loop-i._i n c.loop-i.left c.in-Some.more c.loop-i-test.true c.in-Some.ensures) ∙ before.value;
    }
