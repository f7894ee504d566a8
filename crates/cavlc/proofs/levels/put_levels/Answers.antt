use Rattle.std.proofs.Common.{◌≡◌, ◌++◌, ◌∙◌, List, Bool, OnOk, ap, ap₂, append_assoc, drop, length, map, subst, sym, take, ℤ}
use Rattle.std.proofs.lemmas.List.{take_rest}
use Rattle.cavlc.proofs.LevelLemmas.{further_bits, levels_bits_is}
use Rattle.cavlc.specs.Levels.{first_level, sign}
use Rattle.cavlc.specs.declared.levels.LevelState.{LevelState}
use Rattle.cavlc.proofs.levels.put_levels.Goals as goal

pub returns-clause-ok : goal.returns-clause-ok
returns-clause-ok c =
    let levels = c.args.levels.now in
    let ones = c.args.ones in
    let start = first_level (length levels) ones in
    let signs = map sign (take ones levels) in
    let further = further_bits start (drop ones levels) in
    let put = c.put_further in
    let all = ap₂ (λ (x : LevelState) (y : List ℤ). c.put_signs.new.out ++ further_bits x y) c.first-state.ensures (take_rest levels ones)
    ∙ ap (λ (x : List Bool). x ++ further) c.in_ok-put_signs.ensures.ok ∙ append_assoc c.args.out.now signs further ∙ ap (λ (x : List Bool). c.args.out.now ++ x) (sym (levels_bits_is (length levels) ones levels)) in
    subst (λ (x : List Bool). OnOk put.result (put.new.out ≡ x)) all put.ensures.ok
