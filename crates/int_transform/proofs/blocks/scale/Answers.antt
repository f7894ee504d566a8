use Rattle.std.proofs.Common.{◌*◌, ◌/◌, ◌^◌, ◌≤◌, ℕ, ap, pos, ◌∙◌, subst, sym}
use Rattle.int_transform.specs.Residual.{scale_at}
use Rattle.int_transform.proofs.Scales.{scale_limit, shifted_fits, shifted_is}
use Rattle.int_transform.proofs.blocks.scale.Goals as goal

pub overflow_cast-result : goal.overflow_cast-result
unfolding scale_at
overflow_cast-result c =
    shifted_fits _ (subst (λ (v : ℕ). v * 2 ^ (c.args.qp / 6) ≤ 29 * 2 ^ 8) (sym c.level_scale.ensures) (scale_limit c.args.qp c.args.place c.requires.qp c.requires.place))

pub returns-clause-value : goal.returns-clause-value
unfolding scale_at
returns-clause-value c =
    shifted_is _ (subst (λ (v : ℕ). v * 2 ^ (c.args.qp / 6) ≤ 29 * 2 ^ 8) (sym c.level_scale.ensures) (scale_limit c.args.qp c.args.place c.requires.qp c.requires.place)) ∙ ap (λ (v : ℕ). pos (v * 2 ^ (c.args.qp / 6))) c.level_scale.ensures

pub returns-clause-limit : goal.returns-clause-limit
returns-clause-limit c = scale_limit c.args.qp c.args.place c.requires.qp c.requires.place
