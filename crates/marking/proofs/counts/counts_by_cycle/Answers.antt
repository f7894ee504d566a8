use Rattle.std.proofs.Common.{ℤ, pos, ◌+ℤ◌, get_or, ap, ◌∙◌, arith, rules}
use mir.Syntax.{w32, w128}
use mir.Val.{SFits}
use Rattle.std.proofs.lemmas.Int.{ints, to_z-of_z}
use Rattle.marking.specs.Operations.{counts_in_range}
use Rattle.marking.proofs.counts.counts_by_cycle.Goals as goal

pub returns : goal.returns
returns c =
    let top = c.top_by_cycle-top in
    let bottom = c.summed-bottom in
    let more = c.args.sps.now.offset_for_top_to_bottom_field in
    let d = get_or c.args.header.now.delta_poc 1 (pos 0) in
    let fits : SFits w32 d = search rules in
    let more_fits : SFits w32 more = search rules in
    let top_fits : SFits w128 top.result = search rules in
    let bottom_fits : SFits w128 bottom.result = search rules in
    c.counted.ensures top.result bottom.result (to_z-of_z w128 top.result top_fits) (to_z-of_z w128 bottom.result bottom_fits)
    ∙ ap (λ (x : ℤ). counts_in_range (record { top = top.result; bottom = x })) (bottom.ensures.value top.result more d (to_z-of_z w128 top.result top_fits) (to_z-of_z w32 more more_fits) (omega (arith, ints)))
    ∙ ap (λ (x : ℤ). counts_in_range (record { top = x; bottom = (x +ℤ more) +ℤ d })) top.ensures.value
