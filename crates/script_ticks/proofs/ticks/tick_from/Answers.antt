use Rattle.std.proofs.Common.{◌∙◌, ◌+◌, ◌<◌, ◌≤◌, drop, length, sym, ap, arith}
use Rattle.std.specs.Option.{option_or}
use Rattle.script_ticks.specs.Ticks.{first_tick}
use Rattle.script_ticks.proofs.Searches.{from_line, past_lines}
use Rattle.script_ticks.proofs.ticks.tick_from.Goals as goal

pub returns-in-Some : goal.returns-in-Some
returns-in-Some c =
    let lines = c.args.script.now in
    let line = c.loop-line.line in
    let inside : line < length lines = omega (arith, c.loop-line-test.true, c.len-line-end.ensures) in
    let next = first_tick c.args.time (line + 1) (drop (line + 1) lines) in
    sym (c.loop-line.invariant ∙ (from_line c.args.time line lines c.line.result inside (sym c.line.ensures) ∙ ap (λ o. option_or o next) (sym c.tick_at.ensures ∙ c.in-Some.is)))

pub loop-line-preserved : goal.loop-line-preserved
loop-line-preserved c =
    let lines = c.args.script.now in
    let line = c.loop-line.line in
    let inside : line < length lines = omega (arith, c.loop-line-test.true, c.len-line-end.ensures) in
    let next = first_tick c.args.time (line + 1) (drop (line + 1) lines) in
    c.loop-line.invariant ∙ (from_line c.args.time line lines c.line.result inside (sym c.line.ensures) ∙ ap (λ o. option_or o next) (sym c.tick_at.ensures ∙ c.in_default.is))

pub returns : goal.returns
returns c =
    let past : length c.args.script.now ≤ c.loop-line.line = omega (arith, c.loop-line-test.false, c.len-line-end.ensures) in
    sym (c.loop-line.invariant ∙ past_lines c.args.time c.loop-line.line c.args.script.now past)
