-- Paths along the neighbours, and what a changed pair of neighbours makes of them.
use Rattle.std.proofs.Common.{◌≡◌, ◌≢◌, ◌⊎◌, ℕ, zero, suc, ◌<◌, ◌≤◌, nat_lt, true, false, List, [], ◌∷◌, ◌++◌, length, get_or, set, Some, None, Contains, slice_get, refl, sym, ap, ◌∙◌, inl, inr, arith}
use Rattle.std.proofs.lemmas.List.{get_or-set_same, get_or-set_other}
use Rattle.std.proofs.lemmas.Bool.Decides.{nat_tests}
use Rattle.index_lists.specs.Rings.{IsPath, AreBelow, walk}
use Rattle.index_lists.proofs.Places.{Contains-here, Contains-later}

module _ (next previous : List ℕ) where
  pub path_split : (a : ℕ) (us : List ℕ) (x : ℕ) (vs : List ℕ) (b : ℕ) → IsPath next previous a (us ++ x ∷ vs) b → IsPath next previous a us x × IsPath next previous x vs b
  path_split a [] x vs b path = ((path.0, path.1), path.2)
  path_split a (u ∷ us) x vs b path = let rest = path_split u us x vs b path.2 in ((path.0, path.1, rest.0), rest.1)

  pub path_joined : (a : ℕ) (us : List ℕ) (x : ℕ) (vs : List ℕ) (b : ℕ) → IsPath next previous a us x → IsPath next previous x vs b → IsPath next previous a (us ++ x ∷ vs) b
  path_joined a [] x vs b front back = (front.0, front.1, back)
  path_joined a (u ∷ us) x vs b front back = (front.0, front.1, path_joined u us x vs b front.2 back)

  -- the last one before the end leads to the end
  pub path_last : (a : ℕ) (us : List ℕ) (x : ℕ) → IsPath next previous a us x → ((get_or previous x 0 ≡ a) ⊎ Contains us (get_or previous x 0)) × (get_or next (get_or previous x 0) 0 ≡ x)
  path_last a [] x path = (inl path.1, ap (λ t. get_or next t 0) path.1 ∙ path.0)
  path_last a (u ∷ us) x path =
      let rest = path_last u us x path.2 in (
        inr (
            elim rest.0 as (λ _. Contains (u ∷ us) (get_or previous x 0)) [
              | inl first ↦ (0, omega arith, sym first)
              | inr later ↦ Contains-later u (get_or previous x 0) us later
            ]
            ),
        rest.1,
      )

  pub path_first : (x : ℕ) (vs : List ℕ) (b : ℕ) → IsPath next previous x vs b → (get_or next x 0 ≡ b) ⊎ Contains vs (get_or next x 0)
  path_first x [] b path = inl path.0
  path_first x (v ∷ vs) b path = inr (0, omega arith, sym path.0)

  -- before the k-th one stands the one before it, or the beginning
  pub path_previous : (a : ℕ) (xs : List ℕ) (b k n : ℕ) → IsPath next previous a xs b → slice_get xs k ≡ Some n → get_or previous n 0 ≡ get_or (a ∷ xs) k 0
  path_previous a [] b k n path at = absurd (cc)
  path_previous a (x ∷ xs) b zero n path at = let same : x ≡ n = cc in ap (λ t. get_or previous t 0) (sym same) ∙ path.1
  path_previous a (x ∷ xs) b (suc k) n path at = path_previous x xs b k n path.2 at

  -- two other numbers become neighbours
  pub path_kept : (p q v w a : ℕ) (xs : List ℕ) (b : ℕ) → a ≢ p → ¬ Contains xs p → ¬ Contains xs q → b ≢ q → IsPath next previous a xs b → IsPath (set next p v) (set previous q w) a xs b
  path_kept p q v w a [] b from_p _ _ to_q path = (get_or-set_other next p a v 0 from_p ∙ path.0, get_or-set_other previous q b w 0 to_q ∙ path.1)
  path_kept p q v w a (x ∷ xs) b from_p no_p no_q to_q path =
      let x_p : x ≢ p = λ same. no_p (0, omega arith, same) in
      let x_q : x ≢ q = λ same. no_q (0, omega arith, same) in (
        get_or-set_other next p a v 0 from_p ∙ path.0,
        get_or-set_other previous q x w 0 x_q ∙ path.1,
        path_kept p q v w x xs b x_p (λ later. no_p (Contains-later x p xs later)) (λ later. no_q (Contains-later x q xs later)) to_q path.2,
      )

  -- the last one before the end gets another one after it
  pub path_redirected : (a : ℕ) (us : List ℕ) (x p q : ℕ) → get_or next p 0 ≡ x → get_or previous x 0 ≡ p → ¬ Contains us x → ¬ Contains us q → p < length next → q < length previous → IsPath next previous a us x → IsPath (set next p q) (set previous q p) a us q
  path_redirected a [] x p q leads back _ _ p_in q_in path =
      let same : a ≡ p = sym path.1 ∙ back in
      (ap (λ t. get_or (set next p q) t 0) same ∙ get_or-set_same next p q 0 p_in, get_or-set_same previous q p 0 q_in ∙ sym same)
  path_redirected a (u ∷ us) x p q leads back no_x no_q p_in q_in path =
      let a_p : a ≢ p = λ same. no_x (0, omega arith, sym path.0 ∙ ap (λ t. get_or next t 0) same ∙ leads) in
      let u_q : u ≢ q = λ same. no_q (0, omega arith, same) in (
        get_or-set_other next p a q 0 a_p ∙ path.0,
        get_or-set_other previous q u p 0 u_q ∙ path.1,
        path_redirected u us x p q leads back (λ later. no_x (Contains-later u x us later)) (λ later. no_q (Contains-later u q us later)) p_in q_in path.2,
      )

  -- a walk from the beginning gives the nodes of the path
  pub walk-path : (nodes most a : ℕ) (xs : List ℕ) (b : ℕ) → nodes ≤ b → AreBelow nodes xs → length xs ≤ most → IsPath next previous a xs b → walk nodes next most (get_or next a 0) ≡ xs
  walk-path nodes zero a [] b ends below short path = refl
  walk-path nodes zero a (x ∷ xs) b ends below short path = absurd (omega arith)
  walk-path nodes (suc most) a [] b ends below short path =
      let stop : nat_lt b nodes ≡ false = grind (arith, nat_tests) in
      rw (path.0, stop) refl
  walk-path nodes (suc most) a (x ∷ xs) b ends below short path =
      let on : x < nodes = below x (Contains-here x xs) in
      let go : nat_lt x nodes ≡ true = grind (arith, nat_tests) in
      let rest : walk nodes next most (get_or next x 0) ≡ xs = walk-path nodes most x xs b ends (λ y later. below y (Contains-later x y xs later)) (omega arith) path.2 in
      rw (path.0, go) (ap (λ ys. x ∷ ys) rest)

  -- the first node of the path
  pub first-path : (nodes a : ℕ) (xs : List ℕ) (b : ℕ) → nodes ≤ b → get_or next a 0 < nodes → IsPath next previous a xs b → slice_get xs 0 ≡ Some (get_or next a 0)
  first-path nodes a [] b ends below path = absurd (omega (arith, path.0))
  first-path nodes a (x ∷ xs) b ends below path = ap Some (sym path.0)

  pub no_first-path : (nodes a : ℕ) (xs : List ℕ) (b : ℕ) → AreBelow nodes xs → nodes ≤ get_or next a 0 → IsPath next previous a xs b → slice_get xs 0 ≡ None
  no_first-path nodes a [] b below past path = refl
  no_first-path nodes a (x ∷ xs) b below past path = let is_node : x < nodes = below x (Contains-here x xs) in absurd (omega (arith, path.0))
