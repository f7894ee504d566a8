use Rattle.std.proofs.Common.{◌+◌, ◌-◌, ◌/◌, ◌%◌, Bool, if◌then◌else◌, ℤ, pos, ◌+ℤ◌, ◌*ℤ◌, take, sym, ap, ◌∙◌, rules}
use mir.Syntax.{w64, w128}
use mir.Val.{SFits}
use Rattle.std.proofs.lemmas.Int.{to_z-of_z}
use Rattle.marking.specs.OrderCounts.{total}
use Rattle.marking.proofs.CountLemmas.{pass_high, pass_low, zero_no}
use Rattle.marking.proofs.cycles.expected_count.Goals as goal

pub returns-clause-value : goal.returns-clause-value
returns-clause-value c =
    let a = c.args.a in
    let n = c.args.sps.now.num_ref_frames_in_pic_order_cnt_cycle in
    let xs = c.args.sps.now.offset_for_ref_frame in
    let whole = c.total-whole in
    let part = c.total-part in
    let whole_fits : SFits w64 whole.result = search rules in
    let part_fits : SFits w64 part.result = search rules in
    let fits : SFits w128 c.scaled.result = search rules in
    let t = pos ((a - 1) / n) in
    to_z-of_z w128 c.scaled.result fits
    ∙ c.scaled.ensures.value whole.result part.result (to_z-of_z w64 whole.result whole_fits) (to_z-of_z w64 part.result part_fits)
    ∙ ap (λ (x : ℤ). (t *ℤ x) +ℤ part.result) whole.ensures.value
    ∙ ap (λ (x : ℤ). (t *ℤ total (take n xs)) +ℤ x) part.ensures.value
    ∙ ap (λ (b : Bool). if b then pos 0 else (t *ℤ total (take n xs)) +ℤ total (take ((a - 1) % n + 1) xs)) (sym (zero_no a c.if-a-eq0.false))

pub returns-clause-least : goal.returns-clause-least
returns-clause-least c = let fits : SFits w128 c.scaled.result = search rules in pass_low c.scaled.result fits c.scaled.ensures.least

pub returns-clause-greatest : goal.returns-clause-greatest
returns-clause-greatest c = let fits : SFits w128 c.scaled.result = search rules in pass_high c.scaled.result fits c.scaled.ensures.greatest
