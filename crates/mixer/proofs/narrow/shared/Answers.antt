use Rattle.std.proofs.Common.{ap₂, ◌∙◌, ◌+ℤ◌, pos, rules}
use Rattle.mixer.proofs.NarrowSums.{rounded_bound, rounded_fits, rounded_is, sum_fits}
use Rattle.mixer.proofs.Pixels.{product_is}
use Rattle.mixer.proofs.narrow.shared.Goals as goal

pub overflow_add-result-2 : goal.overflow_add-result-2
overflow_add-result-2 c = sum_fits c.product.result c.product-2.result c.args.weights.constant c.product.ensures.bound c.product-2.ensures.bound c.requires.constant

pub overflow_add-result-3 : goal.overflow_add-result-3
overflow_add-result-3 c = rounded_fits c.product.result c.product-2.result c.args.weights.constant c.product.ensures.bound c.product-2.ensures.bound c.requires.constant

pub returns-clause-value : goal.returns-clause-value
returns-clause-value c =
    rounded_is c.product.result c.product-2.result c.args.weights.constant c.product.ensures.bound c.product-2.ensures.bound c.requires.constant
    ∙ ap₂ (λ a b. ((a +ℤ b) +ℤ c.args.weights.constant) +ℤ pos 128) (product_is c.args.weights.of_cb c.product.result c.args.cb (search rules) c.product.ensures.value) (product_is c.args.weights.of_cr c.product-2.result c.args.cr (search rules) c.product-2.ensures.value)

pub returns-clause-bound : goal.returns-clause-bound
returns-clause-bound c = rounded_bound c.product.result c.product-2.result c.args.weights.constant c.product.ensures.bound c.product-2.ensures.bound c.requires.constant
