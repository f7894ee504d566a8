use Rattle.std.proofs.Common.{◌≡◌, ◌≤◌, ◌++◌, ◌∙◌, SFits, ap, ap₂, arith, get_or, pos, rules, subst, sym, to_z-of_z, w32, ℤ}
use Rattle.cavlc.proofs.LevelLemmas.{next_few}
use Rattle.cavlc.proofs.TurnLemmas.{is_at, state_more, state_none, written_more, written_none}
use Rattle.cavlc.specs.Levels.{HasLevelCode, level_bits, next_level}
use Rattle.cavlc.specs.declared.levels.LevelState.{LevelState}
use Rattle.cavlc.proofs.levels.put_further.Goals as goal

pub loop-level-init : goal.loop-level-init
loop-level-init c = record {
  written = written_none HasLevelCode level_bits next_level c.args.first c.args.levels.now c.args.out.now;
  behind = state_none HasLevelCode level_bits next_level c.args.first c.args.levels.now;
  few = c.requires.suffix_length;
  least = c.requires.least;
}

pub put_level-requires-clause-suffix_length : goal.put_level-requires-clause-suffix_length
put_level-requires-clause-suffix_length c = c.loop-level.invariant.few

pub put_level-requires-clause-least : goal.put_level-requires-clause-least
put_level-requires-clause-least c = c.loop-level.invariant.least

pub put_level-requires-clause-code : goal.put_level-requires-clause-code
put_level-requires-clause-code c =
    let level = get_or c.args.levels.now c.loop-level.level-index (pos 0) in
    let fits : SFits w32 level = search rules in
    rw (to_z-of_z fits) (subst (λ (x : LevelState). HasLevelCode x level) (sym c.loop-level.invariant.behind)
    (is_at HasLevelCode level_bits next_level c.args.first c.args.levels.now c.loop-level.level-index (pos 0) c.loop-level-test.true c.requires.codes))

pub loop-level-preserved : goal.loop-level-preserved
loop-level-preserved c =
    let before = c.loop-level.invariant in
    let levels = c.args.levels.now in
    let i = c.loop-level.level-index in
    let level = get_or levels i (pos 0) in
    let fits : SFits w32 level = search rules in
    let same = to_z-of_z fits in
    let state = c.loop-level.state in
    let put = c.in_ok-put_level.ensures.ok ∙ ap₂ (λ (x : LevelState) (y : ℤ). c.loop-level.out ++ level_bits x y) before.behind same in
    let is : c.behind-state.result ≡ next_level state level = c.behind-state.ensures ∙ ap (next_level state) same in
    record {
      written = written_more HasLevelCode level_bits next_level c.args.first levels i (pos 0) c.args.out.now c.loop-level.out c.put_level.new.out c.loop-level-test.true before.written put;
      behind = is ∙ ap (λ (x : LevelState). next_level x level) before.behind ∙ sym (state_more HasLevelCode level_bits next_level c.args.first levels i (pos 0) c.loop-level-test.true);
      few = subst (λ (x : LevelState). x.suffix_length ≤ 6) (sym is) (next_few state level before.few);
      least = subst (λ (x : LevelState). x.least ≤ 2) (sym is) (omega arith);
    }
