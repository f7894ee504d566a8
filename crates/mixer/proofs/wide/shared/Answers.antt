use Rattle.std.proofs.Common.{ap, ap₂, ◌∙◌, ◌+ℤ◌, ◌*ℤ◌, pos, rules, w32}
use Rattle.std.proofs.lemmas.Int.{to_z-of_z}
use Rattle.mixer.proofs.WideSums.{rounded_bound, rounded_fits, rounded_is, sum_fits, word_bound}
use Rattle.mixer.proofs.Pixels.{product_is}
use Rattle.mixer.proofs.wide.shared.Goals as goal

pub overflow_add-result-2 : goal.overflow_add-result-2
overflow_add-result-2 c = sum_fits c.product.result c.product-2.result c.from.result c.product.ensures.bound c.product-2.ensures.bound (word_bound c.args.weights.constant c.from.result c.from.ensures)

pub overflow_add-result-3 : goal.overflow_add-result-3
overflow_add-result-3 c = rounded_fits c.product.result c.product-2.result c.from.result c.product.ensures.bound c.product-2.ensures.bound (word_bound c.args.weights.constant c.from.result c.from.ensures)

pub returns-clause-value : goal.returns-clause-value
returns-clause-value c =
    rounded_is c.product.result c.product-2.result c.from.result c.product.ensures.bound c.product-2.ensures.bound (word_bound c.args.weights.constant c.from.result c.from.ensures)
    ∙ (ap₂ (λ a b. ((a +ℤ b) +ℤ c.from.result) +ℤ pos 128) (product_is c.args.weights.of_cb c.product.result c.args.cb (search rules) c.product.ensures.value) (product_is c.args.weights.of_cr c.product-2.result c.args.cr (search rules) c.product-2.ensures.value)
    ∙ ap (λ k. (((c.args.weights.of_cb *ℤ pos c.args.cb) +ℤ (c.args.weights.of_cr *ℤ pos c.args.cr)) +ℤ k) +ℤ pos 128) (c.from.ensures ∙ to_z-of_z w32 c.args.weights.constant (search rules)))

pub returns-clause-bound : goal.returns-clause-bound
returns-clause-bound c = rounded_bound c.product.result c.product-2.result c.from.result c.product.ensures.bound c.product-2.ensures.bound (word_bound c.args.weights.constant c.from.result c.from.ensures)
