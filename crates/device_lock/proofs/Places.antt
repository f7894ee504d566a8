-- What holds at the places of a list, after one of them was changed, and after one was added.
use Rattle.std.proofs.Common.{◌≡◌, ℕ, zero, suc, ◌<◌, ◌≢◌, List, [], ◌∷◌, ◌++◌, length, set, sym, ap, ◌∙◌, subst, ⊎_elim, arith}
use mathlib.Core.Logic.{dite}
use mathlib.Core.Option.{some, some-injective, some-ne-none}
use native.Mathlib.Decide.{ℕ_discrete}
use lib.ListN.{get_elem?}
use Rattle.atomic_table.specs.Table.{rest}
use Rattle.atomic_table.proofs.Lists.{at_set, set_here, set_else, at_longer, at_snoc}
use Rattle.device_lock.specs.Lists.{At, Somewhere}

module _ {A : Type 0} where
  pub at_below : (xs : List A) (i : ℕ) (x : A) → At xs i x → i < length xs
  at_below [] i x at = absurd (some-ne-none x (sym at))
  at_below (y ∷ ys) zero x at = omega arith
  at_below (y ∷ ys) (suc i) x at = let rest = at_below ys i x at in omega arith

  pub at_once : (xs : List A) (i j : ℕ) (x y : A) → At xs i x → At xs j y → i ≡ j → x ≡ y
  at_once xs i j x y a b e = some-injective x y (sym a ∙ subst (λ (k : ℕ). get_elem? xs k ≡ some y) (sym e) b)

  -- what holds of the new one, and of each of the others, holds of all
  pub all_set : (P : ℕ → A → Type 0) (xs : List A) (i : ℕ) (y : A) → P i y → ((j : ℕ) (x : A) → j ≢ i → At xs j x → P j x) → (j : ℕ) (x : A) → At (set xs i y) j x → P j x
  all_set P xs i y here others j x at = ⊎_elim (λ (t : (j ≡ i) × (y ≡ x)). subst (λ (p : ℕ × A). P p.0 p.1) (λ k. (sym t.0 k, t.1 k)) here) (λ (t : (j ≢ i) × At xs j x). others j x t.0 t.1) (at_set xs i j y x at)

  pub all_snoc : (P : ℕ → A → Type 0) (xs : List A) (y : A) → ((j : ℕ) → P j y) → ((j : ℕ) (x : A) → At xs j x → P j x) → (j : ℕ) (x : A) → At (xs ++ y ∷ []) j x → P j x
  all_snoc P xs y here others j x at = ⊎_elim (others j x) (λ (e : y ≡ x). subst (P j) e (here j)) (at_snoc xs y x j at)

  pub here_set : (xs : List A) (i : ℕ) (x y : A) → At xs i x → At (set xs i y) i y
  here_set xs i x y at = set_here xs i y (at_below xs i x at)

  -- one is so still, where it was another, or the new one is so if the old one was
  pub some_set : (P : A → Type 0) (xs : List A) (i : ℕ) (x y : A) → At xs i x → (P x → P y) → Somewhere xs P → Somewhere (set xs i y) P
  some_set P xs i x y at keeps s = dite (ℕ_discrete s.0 i)
      (λ e. (i, y, here_set xs i x y at, keeps (subst P (at_once xs s.0 i s.1 x s.2 at e) s.3)))
      (λ ne. (s.0, s.1, set_else xs i s.0 y ne ∙ s.2, s.3))

  pub some_snoc : (P : A → Type 0) (xs : List A) (y : A) → Somewhere xs P → Somewhere (xs ++ y ∷ []) P
  some_snoc P xs y s = (s.0, s.1, at_longer xs (y ∷ []) s.0 s.1 s.2, s.3)

  -- what held of all after a change held of all before it, where it held of the old one if it holds of the new one
  pub all_unset : (P : A → Type 0) (xs : List A) (i : ℕ) (x y : A) → At xs i x → (P y → P x) → ((j : ℕ) (z : A) → At (set xs i y) j z → P z) → (j : ℕ) (z : A) → At xs j z → P z
  all_unset P xs i x y at back all j z there = dite (ℕ_discrete j i)
      (λ e. subst P (at_once xs i j x z at there (sym e)) (back (all i y (here_set xs i x y at))))
      (λ ne. all j z (set_else xs i j y ne ∙ there))

  -- the same of pairs
  pub pairs_set : (P : A → A → Type 0) (xs : List A) (i : ℕ) (y : A) → P y y → ((k : ℕ) (z : A) → k ≢ i → At xs k z → P y z) → ((j : ℕ) (x : A) → j ≢ i → At xs j x → P x y)
      → ((j k : ℕ) (x z : A) → j ≢ i → k ≢ i → At xs j x → At xs k z → P x z) → (j k : ℕ) (x z : A) → At (set xs i y) j x → At (set xs i y) k z → P x z
  pairs_set P xs i y yy yz xy xz j k x z a b = all_set (λ _ x. P x z) xs i y (all_set (λ _ z. P y z) xs i y yy yz k z b) (λ j x ne there. all_set (λ _ z. P x z) xs i y (xy j x ne there) (λ k z ne' there'. xz j k x z ne ne' there there') k z b) j x a

  pub pairs_snoc : (P : A → A → Type 0) (xs : List A) (y : A) → P y y → ((k : ℕ) (z : A) → At xs k z → P y z) → ((j : ℕ) (x : A) → At xs j x → P x y)
      → ((j k : ℕ) (x z : A) → At xs j x → At xs k z → P x z) → (j k : ℕ) (x z : A) → At (xs ++ y ∷ []) j x → At (xs ++ y ∷ []) k z → P x z
  pairs_snoc P xs y yy yz xy xz j k x z a b = all_snoc (λ _ x. P x z) xs y (λ _. all_snoc (λ _ z. P y z) xs y (λ _. yy) yz k z b) (λ j x there. all_snoc (λ _ z. P x z) xs y (λ _. xy j x there) (λ k z there'. xz j k x z there there') k z b) j x a

module _ {V S : Type 0} where
  -- what lies on top of the slots in hand
  pub in_hand : (m : V × List (ℕ × S)) (v : V) (x : ℕ × S) (xs : List (ℕ × S)) → m ≡ (v, x ∷ xs) → m.1 ≡ x ∷ rest m.1
  in_hand m v x xs e = let first : m.1 ≡ x ∷ xs = λ k. (e k).1 in first ∙ ap (λ (l : List (ℕ × S)). x ∷ l) (sym (ap rest first))
