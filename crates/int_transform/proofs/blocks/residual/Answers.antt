use Rattle.std.proofs.Common.{pos, Option, ℤ, lit≤, sym, ap, ◌∙◌, arith}
use Rattle.int_transform.specs.Residual.{residual_at}
use Rattle.int_transform.proofs.BlockRows.{behind_first, entry_is, first_given}
use Rattle.int_transform.proofs.blocks.residual.Goals as goal

pub returns-in-None-clause-samples : goal.returns-in-None-clause-samples
returns-in-None-clause-samples c =
    let levels = c.args.levels.now in
    let first = entry_is c.args.qp 0 _ _ _ c.requires.qp (lit≤ tt) (c.requires.levels 0 (pos 0) (omega arith)) c.scale.ensures.value c.scaled.ensures.within c.scaled.ensures.value in
    λ row column hr hc.
    c.block.ensures.samples row column hr hc ∙ (first_given levels _ _ c.args.qp first (behind_first levels) row column ∙ ap (λ (dc : Option ℤ). residual_at levels dc c.args.qp row column) (sym c.in-None.is))
