use Rattle.std.proofs.Common.{◌-◌, ap, ap₂, sym, ◌∙◌, SFits, w32, rules, to_z-of_z, pos, Option, Some, option_map, get_or, ℕ}
use Rattle.cb_types.specs.Blocks.{block_at}
use Rattle.mb_syntax.proofs.CountLemmas.{luma_above_is, luma_left_is}
use Rattle.mb_syntax.specs.Counts.{mean}
use Rattle.mb_syntax.proofs.counts.Around.luma_nc.Goals as goal
use Rattle.mb_syntax.proofs.counts.Around.luma_nc.Goals.{then-x-eq0, else-x-eq0, then-y-eq0, else-y-eq0}

pub returns : goal.returns
returns c slice before blocks beside so_far =
    let fits : SFits w32 c.mean.result = search rules in
    let around = c.args.self.now in
    let counts = c.args.counts.now in
    let column = c.block_x-x.ensures in
    let row = c.block_y-y.ensures in
    let left = luma_left_is slice before around blocks beside counts c.args.block c.requires so_far c.if-x-eq0.left
    (λ e. elim c.if-x-eq0.branch [
      | then-x-eq0 w ↦ w.left-is ∙ w.luma_count-left.ensures ∙ ap (λ (k : ℕ). option_map (λ counts. get_or counts.luma k 0) around.left) (w.block_at.ensures.block ∙ ap (block_at 3) row)
      | else-x-eq0 w ↦ absurd (w.if-x-eq0.false (column ∙ e))
    ])
    (λ n. elim c.if-x-eq0.branch [
      | then-x-eq0 w ↦ absurd (n (sym column ∙ w.if-x-eq0.true))
      | else-x-eq0 w ↦ w.left-is ∙ ap (λ (k : ℕ). Some (get_or counts k 0)) (w.block_at-else-x-eq0.ensures.block ∙ ap₂ (λ (x y : ℕ). block_at (x - 1) y) column row)
    ]) in
    let up = luma_above_is slice before around blocks beside counts c.args.block c.requires so_far c.if-y-eq0.above
    (λ e. elim c.if-y-eq0.branch [
      | then-y-eq0 w ↦ w.above-is ∙ w.luma_count-above.ensures ∙ ap (λ (k : ℕ). option_map (λ counts. get_or counts.luma k 0) around.above) (w.block_at-then-y-eq0.ensures.block ∙ ap (λ (x : ℕ). block_at x 3) column)
      | else-y-eq0 w ↦ absurd (w.if-y-eq0.false (row ∙ e))
    ])
    (λ n. elim c.if-y-eq0.branch [
      | then-y-eq0 w ↦ absurd (n (sym row ∙ w.if-y-eq0.true))
      | else-y-eq0 w ↦ w.above-is ∙ ap (λ (k : ℕ). Some (get_or counts k 0)) (w.block_at-else-y-eq0.ensures.block ∙ ap₂ (λ (x y : ℕ). block_at x (y - 1)) column row)
    ]) in
    to_z-of_z fits ∙ c.mean.ensures ∙ ap₂ (λ (x y : Option ℕ). pos (mean x y)) left up
