-- Flips in order, and their text.
use Rattle.std.proofs.Common.{◌≡◌, Bool, true, false, if◌then◌else◌, List, [], ◌∷◌, ◌++◌, flat_map, refl, ap, ◌∙◌}
use Rattle.std.proofs.lemmas.Grind.{flat_map-append}
use Rattle.std.specs.List.{AllByRecursion}
use Rattle.driver_model.specs.FlipText.{StreamFlip, comes_before, flip_text, in_order, put_in_order}
use Rattle.player_laws.specs.FlipTexts.{AreInOrder, NoneBefore, OrderedFlipsAreWritten, TextsGoOn}

put_first : (one : StreamFlip) (flips : List StreamFlip) → NoneBefore one flips → put_in_order one flips ≡ one ∷ flips
unfolding put_in_order
put_first one [] none = refl
put_first one (other ∷ flips) none = ap (λ test. if test then other ∷ put_in_order one flips else one ∷ other ∷ flips) none.0

kept : (flips : List StreamFlip) → AreInOrder flips → in_order flips ≡ flips
unfolding in_order
kept [] ordered = refl
kept (one ∷ later) ordered = ap (put_in_order one) (kept later ordered.1) ∙ put_first one later ordered.0

pub ordered_flips_are_written : OrderedFlipsAreWritten
ordered_flips_are_written flips ordered = ap (flat_map flip_text) (kept flips ordered)

-- none of the flips that are put comes before it
none_put : (one other : StreamFlip) (flips : List StreamFlip) → comes_before other one ≡ false → NoneBefore one flips → NoneBefore one (put_in_order other flips)
unfolding put_in_order
none_put one other [] is none = (is, tt)
none_put one other (first ∷ flips) is none = by_test (comes_before first other) (none_put one other flips is none.1) where
  by_test : (b : Bool) → NoneBefore one (put_in_order other flips) → NoneBefore one (if b then first ∷ put_in_order other flips else other ∷ first ∷ flips)
  by_test true rest = (none.0, rest)
  by_test false rest = (is, none)

none_ordered : (one : StreamFlip) (flips : List StreamFlip) → NoneBefore one flips → NoneBefore one (in_order flips)
unfolding in_order
none_ordered one [] none = tt
none_ordered one (first ∷ flips) none = none_put one first (in_order flips) none.0 (none_ordered one flips none.1)

put_front : (one : StreamFlip) (xs ys : List StreamFlip) → NoneBefore one ys → put_in_order one (xs ++ ys) ≡ put_in_order one xs ++ ys
unfolding put_in_order
put_front one [] ys none = put_first one ys none
put_front one (first ∷ xs) ys none = by_test (comes_before first one) (put_front one xs ys none) where
  by_test : (b : Bool) → put_in_order one (xs ++ ys) ≡ put_in_order one xs ++ ys
      → (if b then first ∷ put_in_order one (xs ++ ys) else one ∷ first ∷ (xs ++ ys)) ≡ (if b then first ∷ put_in_order one xs else one ∷ first ∷ xs) ++ ys
  by_test true rest = ap (λ l. first ∷ l) rest
  by_test false rest = refl

both_ordered : (front more : List StreamFlip) → AllByRecursion (λ one. NoneBefore one more) front → in_order (front ++ more) ≡ in_order front ++ in_order more
unfolding in_order
both_ordered [] more all = refl
both_ordered (one ∷ front) more all = ap (put_in_order one) (both_ordered front more all.1) ∙ put_front one (in_order front) (in_order more) (none_ordered one more all.0)

pub texts_go_on : TextsGoOn
texts_go_on front more all = ap (flat_map flip_text) (both_ordered front more all) ∙ flat_map-append flip_text (in_order front) (in_order more)
