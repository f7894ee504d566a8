use Rattle.std.proofs.Common.{rules, ◌≡◌, ◌≢◌, ◌<◌, ◌∙◌, SFits, ap, arith, get_or, length, of_z, pos, sym, to_z, to_z-of_z, w32}
use Rattle.mb_syntax.proofs.BlockLemmas.{count_all, count_level, count_zero}
use Rattle.mb_syntax.proofs.writing_residual.count_levels.Goals as goal
use Rattle.mb_syntax.proofs.writing_residual.count_levels.Goals.{then-level-ne0, else-level-ne0}

pub loop-level-preserved : goal.loop-level-preserved
loop-level-preserved c =
    let before = c.loop-level.invariant in
    let block = c.args.block.now in
    let i = c.loop-level.level-index in
    let level = get_or block i (pos 0) in
    let fits : SFits w32 level = search rules in
    let inside : i < length block = omega arith in
    elim c.if-level-ne0.branch [
      | then-level-ne0 w ↦
          let some : level ≢ pos 0 = λ e. w.if-level-ne0.true (ap (of_z w32) e) in
          record { counted = omega (arith, before.counted, count_level block i inside some, w.total-is); few = omega (arith, before.few, w.total-is) }
      | else-level-ne0 w ↦
          let none : level ≡ pos 0 = sym (to_z-of_z fits) ∙ ap (to_z w32) w.if-level-ne0.false in
          record { counted = omega (arith, before.counted, count_zero block i inside none, w.total-is); few = omega (arith, before.few, w.total-is) }
    ]

pub returns : goal.returns
returns c = count_all c.args.block.now c.loop-level.level-index c.loop-level.total (omega arith) c.loop-level.invariant.counted
