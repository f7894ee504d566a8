use Rattle.std.proofs.Common.{◌≡◌, ◌-◌, ◌++◌, SFits, ap, arith, map, rules, subst, sym, take, to_z-of_z, w32, ◌∙◌, append-nil, ℕ}
use Rattle.std.specs.List.{All}
use Rattle.std.proofs.lemmas.List.{take_more_set, length-set}
use Rattle.std.proofs.lemmas.List.Elements.{All-push}
use Rattle.bit_io.specs.Bits.{u}
use Rattle.cavlc.proofs.LevelLemmas.{sign_more}
use Rattle.cavlc.specs.Levels.{sign}
use Rattle.cavlc.specs.Parts.{IsOne}
use Rattle.cavlc.proofs.levels.put_ones.Goals as goal

pub returns-clause-signs : goal.returns-clause-signs
unfolding u
returns-clause-signs c =
    let all : c.loop-i.i ≡ c.args.ones = omega arith in
    let none : c.args.ones - c.loop-i.i ≡ 0 = omega arith in
    let front = map sign (take c.loop-i.i c.loop-i.levels) in
    ap (λ (x : ℕ). map sign (take x c.loop-i.levels)) (sym all) ∙ sym (append-nil front) ∙ ap (λ (x : ℕ). front ++ u c.args.signs x) (sym none) ∙ c.loop-i.invariant.signs

pub returns-clause-ones : goal.returns-clause-ones
returns-clause-ones c =
    let all : c.loop-i.i ≡ c.args.ones = omega arith in
    subst (λ (x : ℕ). All IsOne (take x c.loop-i.levels)) all c.loop-i.invariant.each

pub loop-i-init : goal.loop-i-init
loop-i-init c =
    let all : c.args.ones - 0 ≡ c.args.ones = omega arith in
    record { size = c.told-levels; signs = ap (u c.args.signs) all; each = λ k d below. absurd (omega (arith, below)) }

pub loop-i-preserved : goal.loop-i-preserved
loop-i-preserved c =
    let fits : SFits w32 c.one_of.result = search rules in
    let same = to_z-of_z fits in
    let levels = c.loop-i.levels in
    let i = c.loop-i.i in
    let before = c.loop-i.invariant in
    let level = c.one_of.result in
    rw same (record {
      size = length-set levels i level ∙ before.size;
      signs = sign_more levels i c.args.ones c.args.signs level (omega (arith, before.size)) (omega arith) c.one_of.ensures.sign before.signs;
      each = subst (All IsOne) (sym (take_more_set levels i level (omega (arith, before.size)))) (All-push IsOne (take i levels) level before.each c.one_of.ensures.one);
    })
