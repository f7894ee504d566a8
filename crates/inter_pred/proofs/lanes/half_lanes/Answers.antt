use Rattle.std.proofs.Common.{ℕ, ◌+◌, ◌-◌, ◌*◌, min, get_or, ap, ◌∙◌, arith}
use Rattle.inter_pred.specs.Rows.{raised_in}
use Rattle.inter_pred.proofs.LaneLemmas.{add_lane, all, lane, shr_lane}
use Rattle.inter_pred.proofs.Sums.{half-raised}
use Rattle.inter_pred.proofs.lanes.half_lanes.Goals as goal

pub returns-clause-lanes : goal.returns-clause-lanes
returns-clause-lanes c k lt =
    let xs = c.args.samples.now in
    let s = c.args.step in
    let at = λ (n : ℕ). get_or xs n 0 in
    let fits = λ (n : ℕ). (c.type_inv.samples n).fits in
    let p = c.args.at + k in
    let sum = lane k c.raised_lanes.result (raised_in xs s p) c.raised_lanes.ensures.count lt (c.raised_lanes.ensures.lanes k lt) in
    let small = fits (p + 5 * s) in
    let rounded = shr_lane 5 (add_lane sum (all k 16 lt) (omega (arith, fits p, fits (p + 2 * s), fits (p + 3 * s), fits (p + 5 * s)))) in
    c.clipped.ensures.lanes k lt ∙ (ap (λ n. min (n - 80) 255) rounded.here
    ∙ half-raised (at p) (at (p + s)) (at (p + 2 * s)) (at (p + 3 * s)) (at (p + 4 * s)) (at (p + 5 * s)) (fits (p + s)) (fits (p + 4 * s)))
