-- Sums over a list and what holds of each of its elements, after one was changed; beginnings of a list; the longer of two.
use Rattle.std.proofs.Common.{◌≡◌, ℕ, zero, suc, ◌+◌, ◌<◌, ◌≤◌, ◌≢◌, ◌⊎◌, inl, inr, nat_lt, Bool, true, false, if◌then◌else◌, List, [], ◌∷◌, ◌++◌, length, set, sym, refl, ap, ◌∙◌, arith, append_assoc}
use mathlib.Core.Logic.{dite}
use mathlib.Core.List.{IsPrefix, append-nil}
use native.Mathlib.Decide.{dec_le}
use mathlib.Core.Option.{some-injective, some-ne-none}
use Rattle.std.proofs.lemmas.Bool.Decides.{nat_tests}
use Rattle.device_lock.specs.Lists.{At, Each, total, longer, shorter}

pub by_bool : (F : Bool → Type 0) (b : Bool) → (b ≡ true → F true) → (b ≡ false → F false) → F b
by_bool F true at_true at_false = at_true refl
by_bool F false at_true at_false = at_false refl

module _ {A : Type 0} where
  module _ (f : A → ℕ) where
    pub total_set : (xs : List A) (i : ℕ) (x y : A) → At xs i x → total f (set xs i y) + f x ≡ total f xs + f y
    total_set [] i x y at = absurd (some-ne-none x (sym at))
    total_set (z ∷ zs) zero x y at = let is : f z ≡ f x = ap f (some-injective z x at) in omega arith
    total_set (z ∷ zs) (suc i) x y at = let rest = total_set zs i x y at in omega arith

    pub total_append : (xs ys : List A) → total f (xs ++ ys) ≡ total f xs + total f ys
    total_append [] ys = omega arith
    total_append (x ∷ xs) ys = let rest = total_append xs ys in omega arith

    pub part_of : (xs : List A) (i : ℕ) (x : A) → At xs i x → f x ≤ total f xs
    part_of [] i x at = absurd (some-ne-none x (sym at))
    part_of (z ∷ zs) zero x at = let is : f z ≡ f x = ap f (some-injective z x at) in omega arith
    part_of (z ∷ zs) (suc i) x at = let rest = part_of zs i x at in omega arith

    pub two_of : (xs : List A) (i j : ℕ) (x y : A) → At xs i x → At xs j y → j ≢ i → f x + f y ≤ total f xs
    two_of [] i j x y a b ne = absurd (some-ne-none x (sym a))
    two_of (z ∷ zs) zero zero x y a b ne = absurd (ne refl)
    two_of (z ∷ zs) zero (suc j) x y a b ne = let is : f z ≡ f x = ap f (some-injective z x a) in let rest = part_of zs j y b in omega arith
    two_of (z ∷ zs) (suc i) zero x y a b ne = let is : f z ≡ f y = ap f (some-injective z y b) in let rest = part_of zs i x a in omega arith
    two_of (z ∷ zs) (suc i) (suc j) x y a b ne = let rest = two_of zs i j x y a b (λ e. ne (ap suc e)) in omega arith

    pub total_none : (xs : List A) → ((j : ℕ) (y : A) → At xs j y → f y ≡ 0) → total f xs ≡ 0
    total_none [] none = refl
    total_none (z ∷ zs) none = let here = none 0 z refl in let rest = total_none zs (λ j y at. none (suc j) y at) in omega arith

    -- the sum is that of one, where the others add nothing
    pub total_one : (xs : List A) (i : ℕ) (x : A) → At xs i x → ((j : ℕ) (y : A) → j ≢ i → At xs j y → f y ≡ 0) → total f xs ≡ f x
    total_one [] i x at none = absurd (some-ne-none x (sym at))
    total_one (z ∷ zs) zero x at none = let is : f z ≡ f x = ap f (some-injective z x at) in let rest = total_none zs (λ j y there. none (suc j) y (λ e. omega arith) there) in omega arith
    total_one (z ∷ zs) (suc i) x at none = let here : f z ≡ 0 = none zero z (λ e. omega arith) refl in let rest = total_one zs i x at (λ j y ne there. none (suc j) y (λ e. ne (omega arith)) there) in omega arith

  pub each_map : (P Q : A → Type 0) → ((x : A) → P x → Q x) → (xs : List A) → Each P xs → Each Q xs
  each_map P Q f [] e = tt
  each_map P Q f (x ∷ xs) e = (f x e.0, each_map P Q f xs e.1)

  pub each_zip : (P Q R : A → Type 0) → ((x : A) → P x → Q x → R x) → (xs : List A) → Each P xs → Each Q xs → Each R xs
  each_zip P Q R f [] d e = tt
  each_zip P Q R f (x ∷ xs) d e = (f x d.0 e.0, each_zip P Q R f xs d.1 e.1)

  pub each_append : (P : A → Type 0) (xs ys : List A) → Each P xs → Each P ys → Each P (xs ++ ys)
  each_append P [] ys a b = b
  each_append P (x ∷ xs) ys a b = (a.0, each_append P xs ys a.1 b)

  pub each_front : (P : A → Type 0) (xs ys : List A) → Each P (xs ++ ys) → Each P xs
  each_front P [] ys e = tt
  each_front P (x ∷ xs) ys e = (e.0, each_front P xs ys e.1)

  -- of two beginnings of one list the shorter begins the longer
  pub prefix_shorter : (xs ys zs : List A) → IsPrefix xs zs → IsPrefix ys zs → length xs ≤ length ys → IsPrefix xs ys
  prefix_shorter [] ys zs p q le = (ys, refl)
  prefix_shorter (x ∷ xs) [] zs p q le = absurd (omega arith)
  prefix_shorter (x ∷ xs) (y ∷ ys) [] p q le = absurd (cc (p.1))
  prefix_shorter (x ∷ xs) (y ∷ ys) (z ∷ zs) p q le =
      let heads : x ≡ y = cc (p.1, q.1) in
      let rest = prefix_shorter xs ys zs (p.0, cc (p.1)) (q.0, cc (q.1)) (omega arith) in
      (rest.0, cc (heads, rest.1))

  -- of two beginnings of one list one begins the other
  pub prefix_either : (xs ys zs : List A) → IsPrefix xs zs → IsPrefix ys zs → IsPrefix xs ys ⊎ IsPrefix ys xs
  prefix_either xs ys zs p q = dite (dec_le (length xs) (length ys)) (λ le. inl (prefix_shorter xs ys zs p q le)) (λ more. inr (prefix_shorter ys xs zs q p (omega arith)))

  pub prefix_trans : (xs ys zs : List A) → IsPrefix xs ys → IsPrefix ys zs → IsPrefix xs zs
  prefix_trans xs ys zs p q = (p.0 ++ q.0, sym (append_assoc xs p.0 q.0) ∙ (ap (λ w. w ++ q.0) p.1 ∙ q.1))

  pub prefix_self : (xs : List A) → IsPrefix xs xs
  prefix_self xs = ([], append-nil xs)

  -- by which of two lists is the longer
  pub by_length : (P : List A → List A → Type 0) (xs ys : List A) → (length xs < length ys → P ys xs) → (length ys ≤ length xs → P xs ys) → P (longer xs ys) (shorter xs ys)
  by_length P xs ys less more = let b : Bool = nat_lt (length xs) (length ys) in by_bool (λ c. P (if c then ys else xs) (if c then xs else ys)) b
      (λ (is : b ≡ true). less (grind (arith, nat_tests))) (λ (is : b ≡ false). more (grind (arith, nat_tests)))
