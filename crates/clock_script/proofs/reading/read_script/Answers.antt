use Rattle.std.proofs.Common.{◌-◌, ◌≤◌, ◌<◌, ◌^◌, arith, subst, sym, ap, rules, ◌∙◌, ◌≡◌, ◌∷◌, ◌++◌, [], ℕ, List, length, drop, take}
use Rattle.std.proofs.lemmas.List.{take_rest}
use Rattle.clock_script.specs.Texts.{line_text}
use Rattle.clock_script.proofs.Parts.{IsFirst}
use Rattle.clock_script.proofs.ReadUpTo.{first_bad, read_last, read_more, read_nothing}
use Rattle.clock_script.proofs.reading.read_script.Goals as goal

pub loop-at-init : goal.loop-at-init
loop-at-init c = rw c.new-draft.ensures (read_nothing c.args.streams c.args.bytes.now)

pub returns-in_default-clause-err : goal.returns-in_default-clause-err
returns-in_default-clause-err c =
    let text = c.args.bytes.now in
    let at : ℕ = c.loop-at.at in
    let end : ℕ = c.find-end.result in
    let few : c.args.streams ≤ 2 ^ 32 = omega (arith, c.ranges.streams.fits) in
    let rest : take (length text - at) (drop at text) ≡ drop at text = take_rest text at in
    let found : IsFirst 10 (take (length text - at) (drop at text)) end = record { within = c.find-end.ensures.within; before = c.find-end.ensures.before; there = c.find-end.ensures.there } in
    let first : IsFirst 10 (drop at text) end = subst (λ (l : List ℕ). IsFirst 10 l end) rest found in
    rw c.len.ensures.count (first_bad c.args.streams text at end c.loop-at.draft few c.loop-at-test.true c.loop-at.invariant first (λ line may is. c.in_default.ensures line may (ap (take end) rest ∙ is)))

pub returns-then-end-rest-clause-ok : goal.returns-then-end-rest-clause-ok
returns-then-end-rest-clause-ok c =
    let text = c.args.bytes.now in
    let at : ℕ = c.loop-at.at in
    let end : ℕ = c.find-end.result in
    let rest : take (length text - at) (drop at text) ≡ drop at text = take_rest text at in
    let line_is : take end (drop at text) ≡ line_text c.in-Some.line = sym (ap (take end) rest) ∙ c.in-Some.ensures.1 in
    let pushed : c.push.new.self ≡ c.loop-at.draft ++ c.in-Some.line ∷ [] = search rules in
    rw (c.finish.ensures, pushed) (read_last c.args.streams text at end c.loop-at.draft c.in-Some.line c.loop-at.invariant c.in-Some.ensures.0 line_is (c.if-end-rest.true ∙ ap length rest))

pub loop-at-preserved : goal.loop-at-preserved
loop-at-preserved c =
    let text = c.args.bytes.now in
    let at : ℕ = c.loop-at.at in
    let end : ℕ = c.find-end.result in
    let rest : take (length text - at) (drop at text) ≡ drop at text = take_rest text at in
    let found : IsFirst 10 (take (length text - at) (drop at text)) end = record { within = c.find-end.ensures.within; before = c.find-end.ensures.before; there = c.find-end.ensures.there } in
    let first : IsFirst 10 (drop at text) end = subst (λ (l : List ℕ). IsFirst 10 l end) rest found in
    let line_is : take end (drop at text) ≡ line_text c.in-Some.line = sym (ap (take end) rest) ∙ c.in-Some.ensures.1 in
    let pushed : c.push.new.self ≡ c.loop-at.draft ++ c.in-Some.line ∷ [] = search rules in
    let inside : end < length (drop at text) = omega (arith, c.find-end.ensures.within, c.if-end-rest.false, ap length rest) in
    rw pushed (read_more c.args.streams text at end c.loop-at.draft c.in-Some.line c.loop-at.invariant first c.in-Some.ensures.0 line_is inside)
