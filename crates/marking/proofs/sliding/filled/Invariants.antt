use Rattle.std.proofs.Common.{◌≡◌, ◌<◌, ◌-◌}
use Rattle.marking.specs.Frames.{filled}
use Rattle.marking.proofs.sliding.filled.Given as goal

abbrev pub invariant-loop-i : goal.invariant-loop-i
invariant-loop-i l = record {
  max : l.current.max_frame_num ≡ l.fn.numbers.max_frame_num;
  most : l.current.max_num_ref_frames ≡ l.fn.numbers.max_num_ref_frames;
  below : l.current.frame_num < l.fn.numbers.max_frame_num;
  value : filled (l.missing - l._i) l.current l.left ≡ filled l.missing l.fn.numbers l.initial.left;
}
