use Rattle.std.proofs.Common.{ℕ, List, arith}
use Rattle.nal_units.specs.declared.finder.Phase.TheVariants as phase
use Rattle.nal_units.proofs.Settling.{phase_settles}
use Rattle.nal_units.proofs.Skipping.{skip_three, no_more_inside, no_more}
use Rattle.nal_units.proofs.finder.plain_len.Goals as goal

pub loop-plain-init : goal.loop-plain-init
loop-plain-init c = record {
  below = c.requires;
  stands = λ t s start i. no_more_inside t s start i;
  quiet = λ t s start i. no_more t c.args.bytes.now s (phase_settles (phase.Inside start 0) t s i);
}

pub loop-plain-preserved : goal.loop-plain-preserved
loop-plain-preserved c =
    let inv = c.loop-plain.invariant in
    let on = λ (t : List ℕ) (s : List (ℕ × ℕ)) (start : ℕ).
    skip_three t c.args.bytes.now s start c.loop-plain.plain (omega arith) c.if-bytes-plain-gt1.true in
    record {
      below = omega arith;
      stands = λ t s start i. (on t s start (inv.stands t s start i) (inv.quiet t s start i)).0;
      quiet = λ t s start i. (on t s start (inv.stands t s start i) (inv.quiet t s start i)).1;
    }
