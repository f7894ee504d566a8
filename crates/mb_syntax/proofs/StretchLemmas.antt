-- Elements one after the other, of which some are read or written before others.
use Rattle.std.proofs.Common.{◌≡◌, ℕ, zero, suc, ◌+◌, ◌≤◌, Bool, List, [], ◌∷◌, ◌++◌, length, take, drop, refl, sym, ap, ◌∙◌, subst, arith, append_assoc}
use Rattle.std.proofs.lemmas.List.{length-take-le}
use Rattle.bit_io.specs.Reads.{BeginsNone, IsPrefixFree}
use Rattle.cavlc.specs.Turns.{AreInTurn, in_turn, state_behind}

pub parts_of_list : {X : Type 0} (k : ℕ) (xs : List X) → xs ≡ take k xs ++ drop k xs
parts_of_list zero xs = refl
parts_of_list (suc k) [] = refl
parts_of_list (suc k) (x ∷ xs) = ap (λ (ys : List _). x ∷ ys) (parts_of_list k xs)

module _ {S V : Type 0} (IsV : S → V → Type 0) (code : S → V → List Bool) (next : S → V → S) where
  pub in_turn-append : (s : S) (vs ws : List V) → in_turn code next s (vs ++ ws) ≡ in_turn code next s vs ++ in_turn code next (state_behind next s vs) ws
  unfolding in_turn state_behind
  in_turn-append s [] ws = refl
  in_turn-append s (x ∷ vs) ws =
      ap (λ (y : List Bool). code s x ++ y) (in_turn-append (next s x) vs ws)
      ∙ sym (append_assoc (code s x) (in_turn code next (next s x) vs) (in_turn code next (state_behind next (next s x) vs) ws))

  pub AreInTurn-append : (s : S) (vs ws : List V) → AreInTurn IsV next s vs → AreInTurn IsV next (state_behind next s vs) ws → AreInTurn IsV next s (vs ++ ws)
  unfolding AreInTurn state_behind
  AreInTurn-append s [] ws h k = k
  AreInTurn-append s (x ∷ vs) ws h k = (h.0, AreInTurn-append (next s x) vs ws h.1 k)

  pub AreInTurn-front : (s : S) (vs ws : List V) → AreInTurn IsV next s (vs ++ ws) → AreInTurn IsV next s vs
  unfolding AreInTurn
  AreInTurn-front s [] ws h = tt
  AreInTurn-front s (x ∷ vs) ws h = (h.0, AreInTurn-front (next s x) vs ws h.1)

  pub AreInTurn-back : (s : S) (vs ws : List V) → AreInTurn IsV next s (vs ++ ws) → AreInTurn IsV next (state_behind next s vs) ws
  unfolding AreInTurn state_behind
  AreInTurn-back s [] ws h = h
  AreInTurn-back s (x ∷ vs) ws h = AreInTurn-back (next s x) vs ws h.1

  -- Some elements have been read, and so many more can't be read behind them: so no longer list of them begins the bits.
  pub no_stretch : ((s : S) → IsPrefixFree (IsV s) (code s)) → (s : S) (vs ws : List V) (more : ℕ) (old mid rest : List Bool) → length vs + more ≤ length ws
      → AreInTurn IsV next s vs → old ≡ in_turn code next s vs ++ mid
      → BeginsNone (λ (xs : List V). (length xs ≡ more) × AreInTurn IsV next (state_behind next s vs) xs) (in_turn code next (state_behind next s vs)) mid
      → AreInTurn IsV next s ws → old ≡ in_turn code next s ws ++ rest → ⊥
  unfolding in_turn AreInTurn state_behind
  no_stretch free s [] ws more old mid rest l h e none k f =
      let first = take more ws in
      let others = drop more ws in
      let parts = parts_of_list more ws in
      none first (in_turn code next (state_behind next s first) others ++ rest)
      (length-take-le more ws (omega (arith, l)), AreInTurn-front s first others (subst (λ (xs : List V). AreInTurn IsV next s xs) parts k))
      (sym e ∙ f ∙ ap (λ (xs : List V). in_turn code next s xs ++ rest) parts ∙ ap (λ (y : List Bool). y ++ rest) (in_turn-append s first others)
      ∙ append_assoc (in_turn code next s first) (in_turn code next (state_behind next s first) others) rest)
  no_stretch free s (v ∷ vs) [] more old mid rest l h e none k f = absurd (omega (arith, l))
  no_stretch free s (v ∷ vs) (w ∷ ws) more old mid rest l h e none k f =
      let rest_v = in_turn code next (next s v) vs in
      let rest_w = in_turn code next (next s w) ws in
      let first = free s v w (rest_v ++ mid) (rest_w ++ rest) h.0 k.0
      (sym (append_assoc (code s v) rest_v mid) ∙ sym e ∙ f ∙ append_assoc (code s w) rest_w rest) in
      let back : w ≡ v = sym first.0 in
      no_stretch free (next s v) vs ws more (rest_v ++ mid) mid rest (omega (arith, l)) h.1 refl none
      (subst (λ (x : V). AreInTurn IsV next (next s x) ws) back k.1)
      (first.1 ∙ ap (λ (x : V). in_turn code next (next s x) ws ++ rest) back)
