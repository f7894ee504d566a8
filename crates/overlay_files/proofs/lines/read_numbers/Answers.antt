use Rattle.std.proofs.Common.{◌≡◌, ℕ, ◌<◌, ◌^◌, ◌∷◌, ◌++◌, List, drop, subst, arith}
use Rattle.std.specs.Prelude.{decimal}
use Rattle.std.proofs.lemmas.List.{take_rest}
use Rattle.overlay_files.specs.Ended.{IsEnded}
use Rattle.overlay_files.proofs.CueTexts.{no_numbers, numbered_all, numbered_more}
use Rattle.overlay_files.proofs.lines.read_numbers.Goals as goal

pub returns-in_default : goal.returns-in_default
returns-in_default c = λ ns rest five small is.
    let text = c.args.text.now in
    let none : (n : ℕ) (r : List ℕ) → n < 2 ^ 63 → drop c.loop-place.end text ≡ decimal n ++ 32 ∷ r → ⊥ =
    subst (λ (t : List ℕ). (n : ℕ) (r : List ℕ) → n < 2 ^ 63 → t ≡ decimal n ++ 32 ∷ r → ⊥) (take_rest text c.loop-place.end) c.in_default.ensures in
    no_numbers text c.loop-place.values ns rest c.loop-place.place c.loop-place.end c.loop-place-test.true c.loop-place.invariant five small none is

pub loop-place-preserved : goal.loop-place-preserved
loop-place-preserved c =
    let text = c.args.text.now in
    let f = c.in-Some.field in
    numbered_more text c.loop-place.values c.loop-place.place c.loop-place.end f.number f.end c.loop-place-test.true c.loop-place.invariant
    (subst (λ (t : List ℕ). IsEnded t 32 f.number f.end) (take_rest text c.loop-place.end) c.in-Some.ensures)

pub returns : goal.returns
returns c = (c.loop-place.invariant.five, numbered_all c.args.text.now c.loop-place.values c.loop-place.place c.loop-place.end (omega (arith, c.loop-place-test.false)) c.loop-place.invariant)
