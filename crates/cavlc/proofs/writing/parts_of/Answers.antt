use Rattle.std.proofs.Common.{◌≡◌, ◌≢◌, ◌+◌, ◌-◌, ◌<◌, SFits, ap, arith, drop, get_or, length, pos, reverse, rules, sum, sym, of_z, to_z, to_z-of_z, w32, ◌∙◌}
use Rattle.std.proofs.lemmas.List.{length-drop, length-set}
use Rattle.cavlc.proofs.PartLemmas.{gaps_at, levels_end, levels_past, nonzero_at, put_down, runs_end, runs_past, zeros_at, zeros_end, zeros_past}
use Rattle.cavlc.specs.Coefficients.{gaps, nonzero}
use Rattle.cavlc.proofs.writing.parts_of.Goals as goal

pub loop-i-preserved-then-level-eq0 : goal.loop-i-preserved-then-level-eq0
loop-i-preserved-then-level-eq0 c =
    let before = c.loop-i.invariant in
    let block = c.args.block.now in
    let i = c.loop-i.i in
    let level = get_or block i (pos 0) in
    let fits : SFits w32 level = search rules in
    let none : level ≡ pos 0 = sym (to_z-of_z fits) ∙ ap (to_z w32) c.if-level-eq0.true in
    let within : i < length block = omega (arith, c.told-block) in
    record {
      long_levels = before.long_levels;
      long_runs = before.long_runs;
      low = omega (arith, before.low);
      high = before.high;
      room = omega (arith, before.room);
      same_levels = levels_past block i within (reverse (nonzero block)) (drop c.loop-i.first c.loop-i.levels) none before.same_levels;
      same_runs = runs_past block i within c.loop-i.run (reverse (gaps 0 block)) (drop c.loop-i.first c.loop-i.runs) none before.same_runs;
      same_zeros = zeros_past block i within c.loop-i.run c.loop-i.zeros (sum (gaps 0 block)) none before.same_zeros;
    }

pub loop-i-preserved : goal.loop-i-preserved
loop-i-preserved c =
    let before = c.loop-i.invariant in
    let block = c.args.block.now in
    let i = c.loop-i.i in
    let first = c.loop-i.first in
    let level = get_or block i (pos 0) in
    let fits : SFits w32 level = search rules in
    let same = to_z-of_z fits in
    let some : level ≢ pos 0 = λ e. c.if-level-eq0.false (ap (of_z w32) e) in
    let within : i < length block = omega (arith, c.told-block) in
    rw same (record {
      long_levels = length-set c.loop-i.levels (first - 1) level ∙ before.long_levels;
      long_runs = length-set c.loop-i.runs (first - 1) c.loop-i.run ∙ before.long_runs;
      low = omega (arith, before.low);
      high = omega (arith, before.high);
      room = omega (arith, before.room);
      same_levels = put_down (reverse (nonzero block)) (nonzero (drop i block)) (nonzero (drop (i + 1) block)) c.loop-i.levels level first before.same_levels (nonzero_at block i within some)
          (omega (arith, before.low)) (omega (arith, before.high, before.long_levels));
      same_runs = put_down (reverse (gaps 0 block)) (gaps c.loop-i.run (drop i block)) (gaps 0 (drop (i + 1) block)) c.loop-i.runs c.loop-i.run first before.same_runs (gaps_at block i within c.loop-i.run some)
          (omega (arith, before.low)) (omega (arith, before.high, before.long_runs));
      same_zeros = zeros_at block i within c.loop-i.run c.loop-i.zeros (sum (gaps 0 block)) some before.same_zeros;
    })

pub returns-clause-levels : goal.returns-clause-levels
returns-clause-levels c =
    levels_end c.args.block.now c.loop-i.i (omega (arith, c.told-block)) (reverse (nonzero c.args.block.now)) (drop c.loop-i.first c.loop-i.levels) c.loop-i.invariant.same_levels

pub returns-clause-runs : goal.returns-clause-runs
returns-clause-runs c =
    runs_end c.args.block.now c.loop-i.i (omega (arith, c.told-block)) c.loop-i.run (reverse (gaps 0 c.args.block.now)) (drop c.loop-i.first c.loop-i.runs) c.loop-i.invariant.same_runs

pub returns-clause-zeros : goal.returns-clause-zeros
returns-clause-zeros c =
    zeros_end c.args.block.now c.loop-i.i (omega (arith, c.told-block)) c.loop-i.run c.loop-i.zeros (sum (gaps 0 c.args.block.now)) c.loop-i.invariant.same_zeros

pub returns-clause-first : goal.returns-clause-first
returns-clause-first c =
    let levels = levels_end c.args.block.now c.loop-i.i (omega (arith, c.told-block)) (reverse (nonzero c.args.block.now)) (drop c.loop-i.first c.loop-i.levels) c.loop-i.invariant.same_levels in
    omega (arith, ap length levels, length-drop c.loop-i.first c.loop-i.levels, c.loop-i.invariant.long_levels, c.loop-i.invariant.high)
