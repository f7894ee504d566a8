use Rattle.std.proofs.Common.{◌/◌, ℤ, pos, ◌+ℤ◌, ◌-ℤ◌, ◌≤ℤ◌, ◌<ℤ◌, sym, ap, ◌∙◌, arith}
use Rattle.std.proofs.lemmas.Int.{ints}
use Rattle.marking.proofs.CountLemmas.{finish, msb_down, msb_same, wraps_down, wraps_not, wraps_up}
use Rattle.marking.proofs.counts.wrapped_top.Goals as goal

pub returns-then-last-lsb-clause-value : goal.returns-then-last-lsb-clause-value
returns-then-last-lsb-clause-value c = λ m l e f.
    let n = c.args.range in
    let s = pos c.args.lsb in
    let fact : pos (n / 2) ≤ℤ (l -ℤ s) = grind (arith, ints) in
    finish ((m +ℤ pos n) +ℤ s) _ (ap (λ (x : ℤ). x +ℤ s) (sym (wraps_up n m l s fact))) (omega (arith, ints))

pub returns-then-lsb-last-clause-value : goal.returns-then-lsb-last-clause-value
returns-then-lsb-last-clause-value c = λ m l e f.
    let n = c.args.range in
    let s = pos c.args.lsb in
    let low : (l -ℤ s) <ℤ pos (n / 2) = grind (arith, ints) in
    let high : pos (n / 2) <ℤ (s -ℤ l) = grind (arith, ints) in
    finish ((m -ℤ pos n) +ℤ s) _ (ap (λ (x : ℤ). x +ℤ s) (sym (wraps_down n m l s low high)))
    (msb_down c.args.msb n c.args.lsb c.requires.msb_least c.requires.msb_most c.requires.range c.requires.lsb ∙ ap (λ (x : ℤ). (x -ℤ pos n) +ℤ s) e)

pub returns-else-lsb-last-clause-value : goal.returns-else-lsb-last-clause-value
returns-else-lsb-last-clause-value c = λ m l e f.
    let n = c.args.range in
    let s = pos c.args.lsb in
    let low : (l -ℤ s) <ℤ pos (n / 2) = grind (arith, ints) in
    let high : (s -ℤ l) ≤ℤ pos (n / 2) = grind (arith, ints) in
    finish (m +ℤ s) _ (ap (λ (x : ℤ). x +ℤ s) (sym (wraps_not n m l s low high)))
    (msb_same c.args.msb c.args.lsb c.requires.msb_least c.requires.msb_most c.requires.lsb ∙ ap (λ (x : ℤ). x +ℤ s) e)
