use Rattle.std.proofs.Common.{ℕ, ◌+◌, ◌*◌, get_or, ap, ◌∙◌, arith}
use Rattle.inter_pred.proofs.LaneLemmas.{lane, length-raised_of, raised_lane}
use Rattle.inter_pred.proofs.lanes.raised_lanes.Goals as goal

pub returns-clause-lanes : goal.returns-clause-lanes
returns-clause-lanes c k lt =
    let xs = c.args.samples.now in
    let s = c.args.step in
    let at = λ (n : ℕ). get_or xs n 0 in
    let fits = λ (n : ℕ). (c.type_inv.samples n).fits in
    let p = c.args.at + k in
    (raised_lane k (at p) (at (p + s)) (at (p + 2 * s)) (at (p + 3 * s)) (at (p + 4 * s)) (at (p + 5 * s)) c.load.result c.load-3.result c.load-5.result c.load-6.result c.load-4.result c.load-2.result
    (lane k c.load.result (at p) c.load.ensures.count lt (c.load.ensures.lanes k lt))
    (lane k c.load-3.result (at (p + s)) c.load-3.ensures.count lt (c.load-3.ensures.lanes k lt ∙ ap at (omega arith)))
    (lane k c.load-5.result (at (p + 2 * s)) c.load-5.ensures.count lt (c.load-5.ensures.lanes k lt ∙ ap at (omega arith)))
    (lane k c.load-6.result (at (p + 3 * s)) c.load-6.ensures.count lt (c.load-6.ensures.lanes k lt ∙ ap at (omega arith)))
    (lane k c.load-4.result (at (p + 4 * s)) c.load-4.ensures.count lt (c.load-4.ensures.lanes k lt ∙ ap at (omega arith)))
    (lane k c.load-2.result (at (p + 5 * s)) c.load-2.ensures.count lt (c.load-2.ensures.lanes k lt ∙ ap at (omega arith)))
    (fits p) (fits (p + s)) (fits (p + 2 * s)) (fits (p + 3 * s)) (fits (p + 4 * s)) (fits (p + 5 * s))).here

pub returns-clause-count : goal.returns-clause-count
returns-clause-count c =
    length-raised_of c.load.result c.load-3.result c.load-5.result c.load-6.result c.load-4.result c.load-2.result c.load.ensures.count c.load-3.ensures.count c.load-5.ensures.count c.load-6.ensures.count c.load-4.ensures.count c.load-2.ensures.count
