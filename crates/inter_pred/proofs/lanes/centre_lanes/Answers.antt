use Rattle.std.proofs.Common.{ℕ, ◌+◌, ◌-◌, ◌*◌, min, get_or, ap, ◌∙◌, arith}
use Rattle.inter_pred.proofs.LaneLemmas.{centre_lane, lane, steps_are}
use Rattle.inter_pred.proofs.lanes.centre_lanes.Goals as goal

pub returns-clause-lanes : goal.returns-clause-lanes
returns-clause-lanes c k lt =
    let xs = c.args.sums.now in
    let s = c.args.step in
    let at = λ (n : ℕ). get_or xs n 0 in
    let le = λ (n : ℕ). c.requires.bound n in
    let p = c.args.at + k in
    let steps = centre_lane k (at p) (at (p + s)) (at (p + 2 * s)) (at (p + 3 * s)) (at (p + 4 * s)) (at (p + 5 * s)) c.load_sums.result c.load_sums-3.result c.load_sums-5.result c.load_sums-6.result c.load_sums-4.result c.load_sums-2.result
    (lane k c.load_sums.result (at p) c.load_sums.ensures.count lt (c.load_sums.ensures.lanes k lt))
    (lane k c.load_sums-3.result (at (p + s)) c.load_sums-3.ensures.count lt (c.load_sums-3.ensures.lanes k lt ∙ ap at (omega arith)))
    (lane k c.load_sums-5.result (at (p + 2 * s)) c.load_sums-5.ensures.count lt (c.load_sums-5.ensures.lanes k lt ∙ ap at (omega arith)))
    (lane k c.load_sums-6.result (at (p + 3 * s)) c.load_sums-6.ensures.count lt (c.load_sums-6.ensures.lanes k lt ∙ ap at (omega arith)))
    (lane k c.load_sums-4.result (at (p + 4 * s)) c.load_sums-4.ensures.count lt (c.load_sums-4.ensures.lanes k lt ∙ ap at (omega arith)))
    (lane k c.load_sums-2.result (at (p + 5 * s)) c.load_sums-2.ensures.count lt (c.load_sums-2.ensures.lanes k lt ∙ ap at (omega arith)))
    (le p) (le (p + s)) (le (p + 2 * s)) (le (p + 3 * s)) (le (p + 4 * s)) (le (p + 5 * s)) in
    c.clipped.ensures.lanes k lt ∙ (ap (λ n. min (n - 210) 255) steps.here
    ∙ steps_are (at p + at (p + 5 * s)) (at (p + s) + at (p + 4 * s)) (at (p + 2 * s) + at (p + 3 * s)) (omega (arith, le p, le (p + 5 * s))) (omega (arith, le (p + s), le (p + 4 * s))) (omega (arith, le (p + 2 * s), le (p + 3 * s))))
