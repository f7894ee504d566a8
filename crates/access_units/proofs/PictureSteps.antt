-- One more picture comes.
use Rattle.std.proofs.Common.{◌≡◌, ℕ, ◌+◌, List, [], ◌∷◌, ◌++◌, map, reverse, Some, sym, ap, ◌∙◌, subst, arith}
use Rattle.marking.specs.History as marks
use Rattle.marking.specs.declared.begun.Begun.{Begun}
use Rattle.output_order.specs.OutputOrder.{History}
use Rattle.output_order.specs.Waiting as waiting
use Rattle.param_sets.specs.declared.sps.Sps.{Sps}
use Rattle.access_units.specs.Pictures.{BeginsBehind, Picture, marked_of, with_count}
use Rattle.access_units.specs.Readable.{IsReadable}
use Rattle.access_units.specs.Stands.{HasOwnNumber, HaveOwnNumbers, IsOrdered, StandsBehind}
use Rattle.access_units.specs.declared.content.Named.{Named}
use Rattle.access_units.specs.declared.pictures.Pictures.{Pictures}
use Rattle.access_units.proofs.PictureLemmas.{marked_more, marks_picture, own_behind}

numbers_more : (before : List Picture) (picture : Picture) → HasOwnNumber before picture → HaveOwnNumbers before → HaveOwnNumbers (picture ∷ before)
unfolding HaveOwnNumbers
numbers_more before picture own numbers = (own, numbers)

pub stands_more : (old new : Pictures) (before : List Picture) (named : Named) (begun : Begun) (picture : Picture) (slices : ℕ) (after : History) → StandsBehind old before → IsReadable named
    → BeginsBehind before named begun → picture.sps ≡ named.sps → picture.begun ≡ with_count slices begun
    → marks.StandsFor new.marker (reverse (map marked_of before) ++ marks_picture named.sps begun.header ∷ [])
    → waiting.StandsFor new.waiting after → IsOrdered after (picture ∷ before) → new.last ≡ Some named.sps → new.count ≡ old.count + 1 → StandsBehind new (picture ∷ before)
stands_more old new before named begun picture slices after stands readable begins same is marker wait ordered last count =
    let order = reverse (map marked_of before) in
    let marked : marked_of picture ≡ marks_picture named.sps begun.header =
    ap (λ (s : Sps). marks_picture s picture.begun.header) same ∙ ap (λ (b : Begun). marks_picture named.sps b.header) is in
    let all : reverse (map marked_of (picture ∷ before)) ≡ order ++ marks_picture named.sps begun.header ∷ [] =
    marked_more before picture ∙ ap (λ (p : marks.Picture). order ++ p ∷ []) marked in
    record {
      marker = subst (λ (xs : List marks.Picture). marks.StandsFor new.marker xs) (sym all) marker;
      history = after;
      waiting = wait;
      ordered = ordered;
      numbers = numbers_more before picture (own_behind old before named begun picture slices stands readable begins same is) stands.numbers;
      last = last ∙ ap (λ (s : Sps). Some s) (sym same);
      count = omega (arith, count, stands.count);
      few = omega (arith, begins.few);
    }
