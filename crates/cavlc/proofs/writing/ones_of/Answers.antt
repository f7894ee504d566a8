use Rattle.std.proofs.Common.{◌+◌, SFits, ap, arith, drop, get_or, pos, rules, sym, to_z-of_z, unsigned_abs, w32, ◌∙◌}
use Rattle.std.proofs.lemmas.List.{drop_all, drop_more}
use Rattle.cavlc.proofs.OnesLemmas.{leading_none, leading_one, leading_other}
use Rattle.cavlc.specs.Coefficients.{leading_ones}
use Rattle.cavlc.proofs.writing.ones_of.Goals as goal
use Rattle.cavlc.proofs.writing.ones_of.Goals.{then-ones-eq3-via-then-ones-eq3, then-ones-eq3-via-else-ones-eq3+then-unsigned_abs-ne1}

pub returns-then-ones-eq3 : goal.returns-then-ones-eq3
returns-then-ones-eq3 c =
    let before = c.loop-level.invariant in
    let levels = c.args.levels.now in
    let i = c.loop-level.level-index in
    let level = get_or levels i (pos 0) in
    elim c.then-ones-eq3.branch [
      | then-ones-eq3-via-then-ones-eq3 w ↦ omega (arith, before.counted, w.if-ones-eq3.true)
      | then-ones-eq3-via-else-ones-eq3+then-unsigned_abs-ne1 w ↦
          let fits : SFits w32 level = search rules in
          let abs = w.unsigned_abs.ensures.value ∙ ap unsigned_abs (to_z-of_z fits) in
          let none = ap leading_ones (drop_more levels i (pos 0) c.loop-level-test.true) ∙ leading_other level (drop (i + 1) levels) (λ e. w.if-unsigned_abs-ne1.true (abs ∙ e)) in
          omega (arith, before.counted, before.few, none)
    ]

pub loop-level-preserved : goal.loop-level-preserved
loop-level-preserved c =
    let before = c.loop-level.invariant in
    let levels = c.args.levels.now in
    let i = c.loop-level.level-index in
    let level = get_or levels i (pos 0) in
    let fits : SFits w32 level = search rules in
    let abs = sym (c.unsigned_abs.ensures.value ∙ ap unsigned_abs (to_z-of_z fits)) ∙ c.if-unsigned_abs-ne1.false in
    let one = ap leading_ones (drop_more levels i (pos 0) c.loop-level-test.true) ∙ leading_one level (drop (i + 1) levels) abs in
    record { counted = omega (arith, before.counted, one); few = omega (arith, before.few, c.if-ones-eq3.false) }

pub returns : goal.returns
returns c =
    let before = c.loop-level.invariant in
    let levels = c.args.levels.now in
    let none = ap leading_ones (drop_all c.loop-level.level-index levels c.loop-level-test.false) ∙ leading_none in
    omega (arith, before.counted, before.few, none)
