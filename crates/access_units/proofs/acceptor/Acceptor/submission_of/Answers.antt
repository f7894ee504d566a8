use Rattle.std.proofs.Common.{◌≡◌, ℕ, ◌+◌, ◌∙◌, List, get_or, length, ap, subst, arith, length-append}
use Rattle.std.specs.Prelude.{slice_range}
use Rattle.std.proofs.lemmas.Bool.{OnFalse_at, OnTrue_at}
use Rattle.access_units.proofs.GiveSubmission.{submission_least, submission_more}
use Rattle.access_units.proofs.acceptor.Acceptor.submission_of.Goals as goal

-- the slice at a place of the same list
at_same : (text slice : List ℕ) (places same : List (ℕ × ℕ)) (i : ℕ) → same ≡ places → slice ≡ slice_range text (get_or same i (0, 0)).0 (get_or same i (0, 0)).1
    → slice ≡ slice_range text (get_or places i (0, 0)).0 (get_or places i (0, 0)).1
at_same text slice places same i e is = subst (λ (ps : List (ℕ × ℕ)). slice ≡ slice_range text (get_or ps i (0, 0)).0 (get_or ps i (0, 0)).1) e is

pub returns-then-not-branch-clause-too_long : goal.returns-then-not-branch-clause-too_long
returns-then-not-branch-clause-too_long c = λ none text bytes.
    let places = c.args.hand.now.slices.items in
    let least = submission_least text places c.loop-place.place-index (0, 0) c.loop-place.submission c.text.result.now
    (omega arith) (c.loop-place.invariant.0 text bytes)
    (at_same text c.text.result.now places c.deref-place-items.result.now c.loop-place.place-index c.deref-place-items.ensures.value (c.text.ensures.bytes text bytes)) in
    let long = OnFalse_at c.if-not-branch.true c.in_ok-push_slice.ensures.too_long in
    omega (arith, least, long)

pub loop-place-preserved : goal.loop-place-preserved
loop-place-preserved c =
    let places = c.args.hand.now.slices.items in
    let is = OnTrue_at c.if-not-branch.false c.in_ok-push_slice.ensures.added in
    let fits = OnTrue_at c.if-not-branch.false c.in_ok-push_slice.ensures.fits in
    let longer : length c.push_slice.new.submission ≡ length c.loop-place.submission + (3 + length c.text.result.now) = ap length is ∙ length-append c.loop-place.submission _ ∙ omega arith in (
      (λ text bytes. is ∙ submission_more text places c.loop-place.place-index (0, 0) c.loop-place.submission c.text.result.now
          (omega arith) (c.loop-place.invariant.0 text bytes)
          (at_same text c.text.result.now places c.deref-place-items.result.now c.loop-place.place-index c.deref-place-items.ensures.value (c.text.ensures.bytes text bytes))),
      omega (arith, longer),
      omega (arith, longer, fits),
    )
