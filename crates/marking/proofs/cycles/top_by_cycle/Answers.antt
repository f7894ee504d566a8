use Rattle.std.proofs.Common.{ℕ, Bool, if◌then◌else◌, ℤ, pos, ◌+ℤ◌, get_or, refl, ap, ◌∙◌, arith, rules}
use mir.Syntax.{w32, w128}
use mir.Val.{SFits}
use Rattle.std.proofs.lemmas.Int.{ints, to_z-of_z}
use Rattle.marking.specs.OrderCounts.{abs_frame_num, expected_count}
use Rattle.marking.proofs.CountLemmas.{within_high, within_low}
use Rattle.marking.proofs.cycles.top_by_cycle.Goals as goal

pub returns-then-is_reference-clause-value : goal.returns-then-is_reference-clause-value
returns-then-is_reference-clause-value c =
    let sps = c.args.sps.now in
    let expected = c.expected_count-expected in
    let d = get_or c.args.header.now.delta_poc 0 (pos 0) in
    let off = sps.offset_for_non_ref_pic in
    let fits : SFits w32 d = search rules in
    let expected_fits : SFits w128 expected.result = search rules in
    let sum_fits : SFits w128 c.summed.result = search rules in
    to_z-of_z w128 c.summed.result sum_fits
    ∙ c.summed.ensures.value expected.result (pos 0) d (to_z-of_z w128 expected.result expected_fits) refl (omega (arith, ints))
    ∙ ap (λ (x : ℤ). (x +ℤ pos 0) +ℤ d) expected.ensures.value
    ∙ ap (λ (a : ℕ). (expected_count sps.offset_for_ref_frame sps.num_ref_frames_in_pic_order_cnt_cycle a +ℤ pos 0) +ℤ d) c.abs_frame_num-a.ensures.value
    ∙ ap (λ (b : Bool). (expected_count sps.offset_for_ref_frame sps.num_ref_frames_in_pic_order_cnt_cycle (abs_frame_num sps c.args.header.now c.args.number) +ℤ (if b then pos 0 else off)) +ℤ d) c.if-is_reference.ensures

pub returns-else-is_reference-clause-value : goal.returns-else-is_reference-clause-value
returns-else-is_reference-clause-value c =
    let sps = c.args.sps.now in
    let expected = c.expected_count-expected in
    let d = get_or c.args.header.now.delta_poc 0 (pos 0) in
    let off = sps.offset_for_non_ref_pic in
    let off_fits : SFits w32 off = search rules in
    let fits : SFits w32 d = search rules in
    let expected_fits : SFits w128 expected.result = search rules in
    let sum_fits : SFits w128 c.summed-else-is_reference.result = search rules in
    to_z-of_z w128 c.summed-else-is_reference.result sum_fits
    ∙ c.summed-else-is_reference.ensures.value expected.result off d (to_z-of_z w128 expected.result expected_fits) (to_z-of_z w32 off off_fits) (omega (arith, ints))
    ∙ ap (λ (x : ℤ). (x +ℤ off) +ℤ d) expected.ensures.value
    ∙ ap (λ (a : ℕ). (expected_count sps.offset_for_ref_frame sps.num_ref_frames_in_pic_order_cnt_cycle a +ℤ off) +ℤ d) c.abs_frame_num-a.ensures.value
    ∙ ap (λ (b : Bool). (expected_count sps.offset_for_ref_frame sps.num_ref_frames_in_pic_order_cnt_cycle (abs_frame_num sps c.args.header.now c.args.number) +ℤ (if b then pos 0 else off)) +ℤ d) c.if-is_reference.ensures

pub returns-then-is_reference-clause-least : goal.returns-then-is_reference-clause-least
returns-then-is_reference-clause-least c =
    let expected : SFits w128 c.expected_count-expected.result = search rules in
    let sum : SFits w128 c.summed.result = search rules in
    within_low c.summed.result c.expected_count-expected.result sum expected c.expected_count-expected.ensures.least c.summed.ensures.least

pub returns-then-is_reference-clause-most : goal.returns-then-is_reference-clause-most
returns-then-is_reference-clause-most c =
    let expected : SFits w128 c.expected_count-expected.result = search rules in
    let sum : SFits w128 c.summed.result = search rules in
    within_high c.summed.result c.expected_count-expected.result sum expected c.expected_count-expected.ensures.greatest c.summed.ensures.most

pub returns-else-is_reference-clause-least : goal.returns-else-is_reference-clause-least
returns-else-is_reference-clause-least c =
    let expected : SFits w128 c.expected_count-expected.result = search rules in
    let sum : SFits w128 c.summed-else-is_reference.result = search rules in
    within_low c.summed-else-is_reference.result c.expected_count-expected.result sum expected c.expected_count-expected.ensures.least c.summed-else-is_reference.ensures.least

pub returns-else-is_reference-clause-most : goal.returns-else-is_reference-clause-most
returns-else-is_reference-clause-most c =
    let expected : SFits w128 c.expected_count-expected.result = search rules in
    let sum : SFits w128 c.summed-else-is_reference.result = search rules in
    within_high c.summed-else-is_reference.result c.expected_count-expected.result sum expected c.expected_count-expected.ensures.greatest c.summed-else-is_reference.ensures.most
