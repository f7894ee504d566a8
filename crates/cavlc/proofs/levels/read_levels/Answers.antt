use Rattle.std.proofs.Common.{◌≡◌, ◌+◌, ◌≤◌, ◌<◌, ◌++◌, SFits, ap, arith, drop, length, map, refl, rules, subst, sym, take, to_z-of_z, w32, ◌∙◌, ℕ}
use Rattle.std.specs.List.{All}
use Rattle.std.proofs.lemmas.List.{length-drop, length-set, length-take-le, take-set-le}
use Rattle.bit_io.specs.Reads.{BeginsNone}
use Rattle.cavlc.proofs.LevelLemmas.{HaveCodes, further_bits, behind_more, behind_none, codes_more, codes_none, first_few, next_few, no_levels, no_signs, levels_are, read_level_more, read_none}
use Rattle.cavlc.specs.Levels.{HasLevelCode, first_level, level_bits, next_level, sign}
use Rattle.cavlc.specs.Parts.{IsOne}
use Rattle.cavlc.specs.declared.levels.LevelState.{LevelState}
use Rattle.cavlc.proofs.levels.read_levels.Goals as goal

pub returns-in_err-signs : goal.returns-in_err-signs
returns-in_err-signs c = rw c.from_residual.ensures (no_signs c.args.total c.args.ones c.args.reader.now c.in_err-signs.ensures.reads.1)

pub loop-i-init : goal.loop-i-init
loop-i-init c =
    let total = c.args.total in
    let ones = c.args.ones in
    let levels = c.put_ones.new.levels in
    let start = first_level total ones in
    let few = first_few total ones in
    record {
      size = c.put_ones.array_long;
      front = refl;
      codes = codes_none start levels ones;
      behind = c.first-state.ensures ∙ behind_none start levels ones;
      read = read_none start levels ones c.read_u.new.self;
      few = subst (λ (x : LevelState). x.suffix_length ≤ 6) (sym c.first-state.ensures) few.0;
      least = subst (λ (x : LevelState). x.least ≤ 2) (sym c.first-state.ensures) few.1;
    }

pub returns-in_err-level : goal.returns-in_err-level
returns-in_err-level c =
    let before = c.loop-i.invariant in
    let ones = c.args.ones in
    let i = c.loop-i.i in
    let read = drop ones (take i c.loop-i.levels) in
    let long : length read + ones < c.args.total =
    omega (arith, length-drop ones (take i c.loop-i.levels), length-take-le i c.loop-i.levels (omega (arith, before.size)), before.size) in
    rw c.from_residual-in_err-level.ensures
    (no_levels c.args.total ones c.in_ok-signs.signs read c.args.reader.now c.read_u.new.self c.loop-i.reader c.in_ok-signs.ensures.reads.1 before.read before.codes long
    (subst (λ (x : LevelState). BeginsNone (HasLevelCode x) (level_bits x) c.loop-i.reader) before.behind c.in_err-level.ensures))

pub loop-i-preserved : goal.loop-i-preserved
loop-i-preserved c =
    let fits : SFits w32 c.in_ok-level.level = search rules in
    let same = to_z-of_z fits in
    let before = c.loop-i.invariant in
    let start = first_level c.args.total c.args.ones in
    let levels = c.loop-i.levels in
    let ones = c.args.ones in
    let i = c.loop-i.i in
    let level = c.in_ok-level.level in
    let state = c.loop-i.state in
    let from : ones ≤ i = omega arith in
    let within : i < length levels = omega (arith, before.size) in
    let is : c.behind-state.result ≡ next_level state level = c.behind-state.ensures ∙ ap (next_level state) same in
    rw same (record {
      size = length-set levels i level ∙ before.size;
      front = take-set-le ones levels i level from ∙ before.front;
      codes = codes_more start levels ones i level state from within before.behind before.codes c.in_ok-level.ensures.0;
      behind = behind_more start levels ones i level state from within before.behind c.behind-state.result is;
      read = read_level_more start levels ones i level state from within before.behind c.read_u.new.self c.loop-i.reader c.read_level.new.reader before.read c.in_ok-level.ensures.1;
      few = subst (λ (x : LevelState). x.suffix_length ≤ 6) (sym is) (next_few state level before.few);
      least = subst (λ (x : LevelState). x.least ≤ 2) (sym is) (omega arith);
    })

pub returns : goal.returns
returns c =
    let before = c.loop-i.invariant in
    let total = c.args.total in
    let ones = c.args.ones in
    let levels = c.loop-i.levels in
    let all : c.loop-i.i ≡ total = omega arith in
    levels_are total ones c.in_ok-signs.signs levels c.args.reader.now c.read_u.new.self c.loop-i.reader c.requires.few c.requires.within (omega (arith, before.size))
    (ap (map sign) before.front ∙ c.put_ones.ensures.signs) (subst (All IsOne) (sym before.front) c.put_ones.ensures.ones)
    c.in_ok-signs.ensures.reads.1
    (before.read ∙ ap (λ (x : ℕ). further_bits (first_level total ones) (drop ones (take x levels)) ++ c.loop-i.reader) all)
    (subst (λ (x : ℕ). HaveCodes (first_level total ones) (drop ones (take x levels))) all before.codes)
