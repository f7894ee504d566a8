use Rattle.std.proofs.Common.{◌≡◌, ℕ, ◌<◌, Bool, false, true, length, find, rules, arith, ap, sym, ◌∙◌, refl, ◌↔◌, IsTrue}
use Rattle.ref_lists.proofs.FindLemmas.{found_behind, found_here, found_later, found_nowhere}
use Rattle.ref_lists.proofs.PlaceLemmas.{from_place}
use Rattle.ref_lists.specs.ReferenceList.{is_meant, numbers_of}
use Rattle.ref_lists.proofs.edits.find.Goals as goal
use Rattle.ref_lists.proofs.edits.find.Goals.{else-not-is_unused-via-then-not-is_unused+else-is_meant, else-not-is_unused-via-else-not-is_unused}

false_from : (b : Bool) → (IsTrue false ↔ IsTrue b) → b ≡ false
false_from true h = sym (h.1 refl)
false_from false h = refl

true_from : (b : Bool) → (IsTrue true ↔ IsTrue b) → b ≡ true
true_from true h = refl
true_from false h = h.0 refl

pub returns-then-is_meant-clause-found : goal.returns-then-is_meant-clause-found
returns-then-is_meant-clause-found c =
    let info = c.args.info.now in
    let size : length info.references ≡ 16 = search rules in
    let k = c.loop-place.place in
    let inside : k < length info.references = omega (arith, size, c.loop-place-test.true) in
    c.loop-place.invariant.same ∙ found_here info (is_meant (numbers_of info c.args.header.now) c.args.counted c.args.edit) k inside
    (false_from _ c.if-not-is_unused.ensures) (sym (c.if-is_meant.ensures k))

pub loop-place-preserved : goal.loop-place-preserved
loop-place-preserved c =
    let info = c.args.info.now in
    let size : length info.references ≡ 16 = search rules in
    let k = c.loop-place.place in
    let p = is_meant (numbers_of info c.args.header.now) c.args.counted c.args.edit in
    let inside : k < length info.references = omega (arith, size, c.loop-place-test.true) in
    elim c.else-not-is_unused.branch [
      | else-not-is_unused-via-then-not-is_unused+else-is_meant w ↦
          record { whole = λ _. size; same = c.loop-place.invariant.same ∙ found_later info p k inside (false_from _ w.if-not-is_unused.ensures) (sym (w.if-is_meant.ensures k)) }
      | else-not-is_unused-via-else-not-is_unused w ↦
          record { whole = λ _. size; same = c.loop-place.invariant.same ∙ found_behind info p k inside (true_from _ w.if-not-is_unused.ensures) }
    ]

pub returns-clause-found : goal.returns-clause-found
returns-clause-found c =
    let info = c.args.info.now in
    let end : c.loop-place.place ≡ 16 = omega (arith, c.loop-place-test.false, c.loop-place.auto.place-end) in
    let some : 0 < c.loop-place.place = omega arith in
    let p = is_meant (numbers_of info c.args.header.now) c.args.counted c.args.edit in
    c.loop-place.invariant.same ∙ ap (λ (k : ℕ). find p (from_place info k)) end ∙ found_nowhere info p (c.loop-place.invariant.whole some)
