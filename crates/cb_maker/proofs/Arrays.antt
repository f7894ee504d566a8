-- Arrays that are filled with what is drawn.
use Rattle.std.proofs.Common.{◌≡◌, ℕ, ◌+◌, ◌-◌, ◌<◌, ◌≤◌, List, [], ◌∷◌, ◌++◌, length, get_or, set, take, drop, replicate, sym, ap, ◌∙◌, subst, arith}
use Rattle.std.proofs.lemmas.List.{drop-drop, drop-replicate, drop-set-lt, length-replicate, length-set, length-take-le, take-append-drop, take_all, take_more_set}
use Rattle.slice_header.specs.Lists.{padded}
use Rattle.cb_maker.specs.Draws.{Drawn, each_below}
use Rattle.cb_maker.proofs.Drawing.{more_below, none_below}

-- The first of these are drawn, one behind the other.
pub record DrawnSo {A : Type 0} (one : ℕ → Drawn A) (n i : ℕ) (xs : List A) (x y : ℕ) : Type 0 where
  pub size : length xs ≡ n
  pub drawn : each_below i one x ≡ (take i xs, y)

module _ {A : Type 0} (one : ℕ → Drawn A) where
  pub none_drawn : (n : ℕ) (xs : List A) (x : ℕ) → length xs ≡ n → DrawnSo one n 0 xs x x
  none_drawn n xs x l = record { size = l; drawn = none_below one x }

  pub more_drawn : (n i : ℕ) (xs : List A) (v : A) (x y z : ℕ) → i < n → DrawnSo one n i xs x y → one i y ≡ (v, z) → DrawnSo one n (i + 1) (set xs i v) x z
  more_drawn n i xs v x y z below h e =
      let l : i < length xs = omega (arith, h.size) in
      record {
        size = length-set xs i v ∙ h.size;
        drawn = more_below one i x y z (take i xs) v h.drawn e ∙ ap (λ (s : List A). (s, z)) (sym (take_more_set xs i v l));
      }

  pub all_drawn : (n i : ℕ) (xs : List A) (x y : ℕ) → i ≡ n → DrawnSo one n i xs x y → each_below n one x ≡ (xs, y)
  all_drawn n i xs x y e h =
      ap (λ (k : ℕ). each_below k one x) (sym e) ∙ h.drawn ∙ ap (λ (s : List A). (s, y)) (take_all i xs (omega (arith, h.size, e)))

-- The first of these are drawn, one behind the other, and a filler stands in the other places.
pub record FilledSo {A : Type 0} (one : ℕ → Drawn A) (filler : A) (n i : ℕ) (xs : List A) (x y : ℕ) : Type 0 where
  pub size : length xs ≡ n
  pub drawn : each_below i one x ≡ (take i xs, y)
  pub rest : drop i xs ≡ replicate (n - i) filler

from_zero : (n : ℕ) → n ≡ n - 0
from_zero n = omega arith

module _ {A : Type 0} (one : ℕ → Drawn A) (filler : A) where
  pub none_filled : (n : ℕ) (xs : List A) (x : ℕ) → xs ≡ replicate n filler → FilledSo one filler n 0 xs x x
  none_filled n xs x e = record { size = ap length e ∙ length-replicate n filler; drawn = none_below one x; rest = e ∙ ap (λ (k : ℕ). replicate k filler) (from_zero n) }

  pub more_filled : (n i : ℕ) (xs : List A) (v : A) (x y z : ℕ) → i < n → FilledSo one filler n i xs x y → one i y ≡ (v, z) → FilledSo one filler n (i + 1) (set xs i v) x z
  more_filled n i xs v x y z below h e =
      let l : i < length xs = omega (arith, h.size) in
      let next : i < i + 1 = omega arith in
      let less : (n - i) - 1 ≡ n - (i + 1) = omega arith in
      record {
        size = length-set xs i v ∙ h.size;
        drawn = more_below one i x y z (take i xs) v h.drawn e ∙ ap (λ (s : List A). (s, z)) (sym (take_more_set xs i v l));
        rest = drop-set-lt (i + 1) xs i v next ∙ sym (drop-drop 1 i xs) ∙ ap (drop 1) h.rest ∙ drop-replicate 1 (n - i) filler ∙ ap (λ (k : ℕ). replicate k filler) less;
      }

  -- what was drawn, and the filler behind it
  pub all_filled : (n i count : ℕ) (xs : List A) (x y : ℕ) → i ≡ count → i ≤ n → FilledSo one filler n i xs x y
      → (each_below count one x ≡ (take count xs, y)) × (padded n filler (take count xs) ≡ xs)
  all_filled n i count xs x y e few h =
      let same = subst (λ (k : ℕ). FilledSo one filler n k xs x y) e h in
      let within : count ≤ length xs = omega (arith, few, e, h.size) in (
        same.drawn,
        ap (λ (k : ℕ). take count xs ++ replicate (n - k) filler) (length-take-le count xs within) ∙ ap (λ (s : List A). take count xs ++ s) (sym same.rest) ∙ take-append-drop count xs,
      )

-- the first four of some
pub first_four : {A : Type 0} (xs : List A) (a b c d filler : A) → 4 ≤ length xs → a ≡ get_or xs 0 filler → b ≡ get_or xs 1 filler → c ≡ get_or xs 2 filler → d ≡ get_or xs 3 filler
    → take 4 xs ≡ a ∷ b ∷ c ∷ d ∷ []
first_four [] a b c d filler h e f g i = absurd (omega (arith, h))
first_four (x ∷ []) a b c d filler h e f g i = absurd (omega (arith, h))
first_four (x ∷ y ∷ []) a b c d filler h e f g i = absurd (omega (arith, h))
first_four (x ∷ y ∷ z ∷ []) a b c d filler h e f g i = absurd (omega (arith, h))
first_four (x ∷ y ∷ z ∷ w ∷ xs) a b c d filler h e f g i = cc
