use Rattle.std.proofs.Common.{◌≡◌, ℤ, ◌∙◌, subst, rules}
use mir.Syntax.{w128}
use mir.Val.{SFits, of_z, to_z}
use Rattle.std.proofs.lemmas.Int.{to_z-of_z}
use Rattle.marking.specs.Operations.{counts_in_range}
use Rattle.marking.proofs.counts.counted.Goals as goal

pub returns : goal.returns
returns c = λ t b e f.
    let top : SFits w128 c.args.top = search rules in
    let bottom : SFits w128 c.args.bottom = search rules in
    let e2 = to_z-of_z w128 c.args.top top ∙ e in
    let f2 = to_z-of_z w128 c.args.bottom bottom ∙ f in
    let P : ℤ → Type 0 = λ x. c.exactly.result ≡ counts_in_range (record { top = x; bottom = b }) in
    let Q : ℤ → ℤ → Type 0 = λ x y. c.exactly.result ≡ counts_in_range (record { top = x; bottom = y }) in
    subst P e2 (subst (Q (to_z w128 (of_z w128 c.args.top))) f2 c.exactly.ensures)
