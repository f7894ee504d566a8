use Rattle.std.proofs.Common.{◌≡◌, ◌∙◌, ◌+◌, ◌-◌, ◌<◌, ◌≤◌, ◌⊎◌, inl, inr, ℕ, Bool, true, false, cond, refl, arith, rules, sym, ap}
use Rattle.std.proofs.lemmas.Result.{err_from_is_err_and}
use Rattle.vd_outside.specs.Shelf.{told}
use Rattle.vdplay.proofs.OutsideLemmas.{none_read, read_more, same_more, stops_later}
use Rattle.vdplay.proofs.ReadingLemmas.{answered, fed_all, hungry, reads_at, renewed}
use Rattle.vdplay.proofs.file_reader.FileReader.next.Goals as goal

pub loop-self-init : goal.loop-self-init
loop-self-init g c = (refl, refl, λ stream reads. record { stream = stream; same = refl; reads = reads }, λ name. refl, none_read _ _)

pub next-requires : goal.next-requires
next-requires g c = let r = c.requires in let on = c.loop-self.invariant.2 r.0 r.1 in (on.stream, on.reads.decoder)

pub read-requires : goal.read-requires
read-requires g c =
    let r = c.requires in
    let on = c.loop-self.invariant.2 r.0 r.1 in
    let wants = hungry on.stream c.in_ok-step.step c.next.new.self (c.in_ok-step.ensures.step on.stream on.reads.decoder) c.in-Hungry.is in
    (on.stream, renewed c.loop-self.self _ _ _ on.stream on.reads wants.1 refl refl refl (ap (λ files. told files c.args.name.now) (sym c.loop-self.invariant.0)), wants.0)

falls : (old new : ℕ) (was ended : Bool) → (old < new) ⊎ ((new ≡ old) × (ended ≡ true)) → was ≡ false → new ≤ 1073741824 → 1073741824 - new + cond ended 0 1 < 1073741824 - old + cond was 0 1
falls old new true ended by open_ most = absurd (cc)
falls old new false true by open_ most = elim by [ inl up ↦ omega (arith, up, most) | inr same ↦ let at = same.0 in omega (arith, at) ]
falls old new false false by open_ most = elim by [ inl up ↦ omega (arith, up, most) | inr same ↦ let bad = same.1 in absurd (cc) ]

pub loop-self-smaller : goal.loop-self-smaller
loop-self-smaller g c =
    let r = c.requires in
    let on = c.loop-self.invariant.2 r.0 r.1 in
    let wants = hungry on.stream c.in_ok-step.step c.next.new.self (c.in_ok-step.ensures.step on.stream on.reads.decoder) c.in-Hungry.is in
    let here = renewed c.loop-self.self _ _ _ on.stream on.reads wants.1 refl refl refl (ap (λ files. told files c.args.name.now) (sym c.loop-self.invariant.0)) in
    let more = c.in_ok-read-in-Hungry.ensures.reads on.stream here wants.0 in
    falls c.loop-self.self.at c.read.new.self.at c.loop-self.self.ended c.read.new.self.ended c.in_ok-read-in-Hungry.ensures.further c.loop-self-test.true more.reads.most

pub loop-self-preserved : goal.loop-self-preserved
loop-self-preserved g c = (
  c.in_ok-read-in-Hungry.ensures.kept ∙ c.loop-self.invariant.0,
  c.in_ok-read-in-Hungry.ensures.faultless c.args.name.now ∙ c.loop-self.invariant.1,
  λ stream reads.
      let on = c.loop-self.invariant.2 stream reads in
      let wants = hungry on.stream c.in_ok-step.step c.next.new.self (c.in_ok-step.ensures.step on.stream on.reads.decoder) c.in-Hungry.is in
      let here = renewed c.loop-self.self _ _ _ on.stream on.reads wants.1 refl refl refl (ap (λ files. told files c.args.name.now) (sym c.loop-self.invariant.0)) in
      let more = c.in_ok-read-in-Hungry.ensures.reads on.stream here wants.0 in
      let back = reads_at c.read.new.self _ _ on.stream.decoded (ap (λ files. told files c.args.name.now) c.loop-self.invariant.0) more in
      record { stream = back.stream; same = back.same ∙ on.same; reads = back.reads },
  same_more _ _ _ c.loop-self.invariant.3 c.in_ok-read-in-Hungry.ensures.faultless,
  read_more _ _ _ _ c.loop-self.invariant.4 c.in_ok-read-in-Hungry.ensures.alone,
)

pub returns-in_default-clause-answer : goal.returns-in_default-clause-answer
returns-in_default-clause-answer g c = λ stream reads.
    answered c.loop-self.self _ _ stream.decoded c.in_ok-step.step (c.loop-self.invariant.2 stream reads) refl refl refl c.in_default.not-Hungry c.in_ok-step.ensures.step

pub next-requires-2 : goal.next-requires-2
next-requires-2 g c = let r = c.requires in let on = c.loop-self.invariant.2 r.0 r.1 in (on.stream, on.reads.decoder)

pub returns-clause-answer : goal.returns-clause-answer
returns-clause-answer g c = λ stream reads.
    let on = c.loop-self.invariant.2 stream reads in
    let closed : c.loop-self.self.ended ≡ true = search rules in
    answered c.loop-self.self _ _ stream.decoded c.in_ok-next.field-0 on refl refl refl
    (fed_all c.loop-self.self _ stream.decoded c.in_ok-next.field-0 c.next-2.new.self on closed c.in_ok-next.ensures.step) c.in_ok-next.ensures.step

pub returns-in_err-read-in-Hungry-clause-stops : goal.returns-in_err-read-in-Hungry-clause-stops
returns-in_err-read-in-Hungry-clause-stops g c =
    let p = err_from_is_err_and c.from_residual-in_err-read-in-Hungry.result c.from_residual-in_err-read-in-Hungry.ensures.1 in
    rw (p.1, p.2) (stops_later c.in_err-read-in-Hungry.field-0.0 c.args.name.now _ _ _ c.loop-self.invariant.3 c.in_err-read-in-Hungry.ensures.stops)
