use Rattle.std.proofs.Common.{◌≡◌, ◌≢◌, ℕ, ◌<◌, ◌≤◌, ◌++◌, ◌∷◌, [], List, Option, None, length, get_or, arith, sym, ap, ◌∙◌, get_or-set_other}
use Rattle.std.proofs.lemmas.List.{length-set, take_more_set}
use Rattle.ref_lists.proofs.MovedLemmas.{fitted_front, kept, kept_all, kept_more, kept_same}
use Rattle.ref_lists.proofs.edits.moved_up.Goals as goal
use Rattle.ref_lists.proofs.edits.moved_up.Goals.{then-is_other, else-is_other}

pub loop-i-preserved : goal.loop-i-preserved
loop-i-preserved c =
    let before = c.loop-i.invariant in
    let entries = c.args.entries.now in
    let i = c.loop-i.i in
    let next = c.loop-i.next in
    let moved = c.loop-i.moved in
    let from : c.args.settled ≤ i = c.loop-i.auto.i in
    elim c.if-is_other.branch [
      | then-is_other w ↦ (
          let value = get_or entries i None in
          let room : next < length moved = omega (arith, before.size, before.few, c.requires.length, c.loop-i-test.true) in
          rw (w.next-is, w.moved-is) (record {
            size = length-set moved next value ∙ before.size;
            few = omega (arith, before.few);
            front = take_more_set moved next value room ∙ ap (λ (xs : List (Option ℕ)). xs ++ value ∷ []) before.front
                ∙ sym (kept_more entries c.args.settled c.args.place i from c.loop-i-test.true (sym w.if-is_other.ensures));
            back = λ k h l. let ne : k ≢ next = omega arith in get_or-set_other moved next k value None ne ∙ before.back k (omega arith) l;
          }))
      | else-is_other w ↦ rw (w.next-is, w.moved-is) (record {
        size = before.size;
        few = omega (arith, before.few);
        front = before.front ∙ sym (kept_same entries c.args.settled c.args.place i from c.loop-i-test.true (sym w.if-is_other.ensures));
        back = before.back;
      })
    ]

pub returns : goal.returns
returns c =
    let entries = c.args.entries.now in
    let before = c.loop-i.invariant in
    let all : c.loop-i.i ≡ length entries = omega (arith, c.loop-i-test.false, c.loop-i.auto.i-end, c.requires.settled) in
    fitted_front (length entries) c.loop-i.next c.loop-i.moved _ before.size c.requires.length (omega (arith, before.few, c.requires.length))
    (before.front ∙ ap (kept entries c.args.settled c.args.place) all ∙ kept_all entries c.args.settled c.args.place) before.back
