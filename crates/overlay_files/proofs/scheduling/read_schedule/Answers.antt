use Rattle.std.proofs.Common.{◌-◌, ◌+◌, ◌<◌, arith, subst, sym, ap, rules, ◌∙◌, ◌≡◌, ◌∷◌, ◌++◌, [], ℕ, List, length, drop, take}
use Rattle.std.proofs.lemmas.List.{take_rest}
use Rattle.clock_script.proofs.Parts.{IsFirst}
use Rattle.overlay_files.specs.Cues.{Cue, cue}
use Rattle.overlay_files.specs.ReadCues.{MayFollow}
use Rattle.overlay_files.specs.Schedules.{IsFirstBadCue, cue_text}
use Rattle.overlay_files.proofs.ReadLines.{cue_last, cue_more, first_bad_cue}
use Rattle.overlay_files.proofs.scheduling.read_schedule.Goals as goal

pub returns-in_default-clause-err : goal.returns-in_default-clause-err
returns-in_default-clause-err c =
    let text = c.args.bytes.now in
    let at : ℕ = c.loop-at.at in
    let end : ℕ = c.find-end.result in
    let rest : take (length text - at) (drop at text) ≡ drop at text = take_rest text at in
    let found : IsFirst 10 (take (length text - at) (drop at text)) end = record { within = c.find-end.ensures.within; before = c.find-end.ensures.before; there = c.find-end.ensures.there } in
    let first : IsFirst 10 (drop at text) end = subst (λ (l : List ℕ). IsFirst 10 l end) rest found in
    let bad : (one : Cue) → MayFollow (length c.loop-at.schedule) one → take end (drop at text) ≡ cue_text one → ⊥ =
    λ one may is. c.in_default.ensures one (subst (λ (n : ℕ). MayFollow n one) (sym c.len.ensures) may) (ap (take end) rest ∙ is) in
    subst (λ (n : ℕ). IsFirstBadCue (n + 1) text) (sym c.len-in_default.ensures) (first_bad_cue text at end c.loop-at.schedule c.loop-at-test.true c.loop-at.invariant first bad)

pub returns-then-end-rest-clause-ok : goal.returns-then-end-rest-clause-ok
returns-then-end-rest-clause-ok c =
    let text = c.args.bytes.now in
    let at : ℕ = c.loop-at.at in
    let end : ℕ = c.find-end.result in
    let one = cue c.in-Some.showing c.in-Some.name.now in
    let rest : take (length text - at) (drop at text) ≡ drop at text = take_rest text at in
    let line_is : take end (drop at text) ≡ cue_text one = sym (ap (take end) rest) ∙ c.in-Some.ensures.1 in
    let may : MayFollow (length c.loop-at.schedule) one = subst (λ (n : ℕ). MayFollow n one) c.len.ensures c.in-Some.ensures.0 in
    let pushed : c.push.new.self ≡ c.loop-at.schedule ++ one ∷ [] = search rules in
    rw pushed (cue_last text at end c.loop-at.schedule one c.loop-at.invariant may line_is (c.if-end-rest.true ∙ ap length rest))

pub loop-at-preserved : goal.loop-at-preserved
loop-at-preserved c =
    let text = c.args.bytes.now in
    let at : ℕ = c.loop-at.at in
    let end : ℕ = c.find-end.result in
    let one = cue c.in-Some.showing c.in-Some.name.now in
    let rest : take (length text - at) (drop at text) ≡ drop at text = take_rest text at in
    let found : IsFirst 10 (take (length text - at) (drop at text)) end = record { within = c.find-end.ensures.within; before = c.find-end.ensures.before; there = c.find-end.ensures.there } in
    let first : IsFirst 10 (drop at text) end = subst (λ (l : List ℕ). IsFirst 10 l end) rest found in
    let line_is : take end (drop at text) ≡ cue_text one = sym (ap (take end) rest) ∙ c.in-Some.ensures.1 in
    let may : MayFollow (length c.loop-at.schedule) one = subst (λ (n : ℕ). MayFollow n one) c.len.ensures c.in-Some.ensures.0 in
    let pushed : c.push.new.self ≡ c.loop-at.schedule ++ one ∷ [] = search rules in
    let inside : end < length (drop at text) = omega (arith, c.find-end.ensures.within, c.if-end-rest.false, ap length rest) in
    rw pushed (cue_more text at end c.loop-at.schedule one c.loop-at.invariant first may line_is inside)
