use Rattle.std.proofs.Common.{ℤ, pos, ◌+ℤ◌, ◌*ℤ◌, ap, ◌∙◌}
use Rattle.marking.proofs.CountLemmas.{product_fits, scaled_fits, scaled_high, scaled_is, scaled_low}
use Rattle.marking.proofs.cycles.scaled.Goals as goal

pub overflow_mul-result : goal.overflow_mul-result
overflow_mul-result c = let r = c.requires in product_fits c.args.times c.args.whole r.times (r.whole_least, r.whole_most)

pub overflow_add-result : goal.overflow_add-result
overflow_add-result c = let r = c.requires in scaled_fits c.args.times c.args.whole c.args.part r.times (r.whole_least, r.whole_most) (r.part_least, r.part_most)

pub returns-clause-value : goal.returns-clause-value
returns-clause-value c = λ w p e f.
    let r = c.requires in
    scaled_is c.args.times c.args.whole c.args.part r.times (r.whole_least, r.whole_most) (r.part_least, r.part_most)
    ∙ ap (λ (x : ℤ). (pos c.args.times *ℤ x) +ℤ c.args.part) e ∙ ap (λ (x : ℤ). (pos c.args.times *ℤ w) +ℤ x) f

pub returns-clause-least : goal.returns-clause-least
returns-clause-least c = let r = c.requires in scaled_low c.args.times c.args.whole c.args.part r.times (r.whole_least, r.whole_most) (r.part_least, r.part_most)

pub returns-clause-greatest : goal.returns-clause-greatest
returns-clause-greatest c = let r = c.requires in scaled_high c.args.times c.args.whole c.args.part r.times (r.whole_least, r.whole_most) (r.part_least, r.part_most)
