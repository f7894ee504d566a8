use Rattle.std.proofs.Common.{ℤ, ◌+ℤ◌, ap, ◌∙◌, rules}
use mir.Syntax.{w32}
use mir.Val.{SFits}
use Rattle.marking.specs.Operations.{counts_in_range}
use Rattle.marking.proofs.CountLemmas.{wide, wide_sum}
use Rattle.marking.proofs.counts.counts_by_lsb.Goals as goal

pub returns : goal.returns
returns c =
    let top = c.top_by_lsb-top in
    let d = c.args.header.now.delta_bottom in
    let fits : SFits w32 d = search rules in
    c.counted.ensures top.result (top.result +ℤ d) (wide top.result top.ensures.least top.ensures.most) (wide_sum top.result d top.ensures.least top.ensures.most fits)
    ∙ ap (λ (x : ℤ). counts_in_range (record { top = x; bottom = x +ℤ d })) top.ensures.value
