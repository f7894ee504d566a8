-- Elements one after the other.
use Rattle.std.proofs.Common.{◌≡◌, ℕ, zero, suc, ◌+◌, ◌<◌, Bool, List, [], ◌∷◌, ◌++◌, length, get_or, take, refl, sym, ap, ap₂, ◌∙◌, subst, arith, append_assoc, append-nil}
use Rattle.std.proofs.lemmas.List.{take_more}
use Rattle.bit_io.specs.Reads.{BeginsNone, IsPrefixFree}
use Rattle.cavlc.specs.Turns.{AreInTurn, in_turn, state_behind}

module _ {S V : Type 0} (IsV : S → V → Type 0) (code : S → V → List Bool) (next : S → V → S) where
  pub in_turn-push : (s : S) (vs : List V) (v : V) → in_turn code next s (vs ++ v ∷ []) ≡ in_turn code next s vs ++ code (state_behind next s vs) v
  unfolding in_turn state_behind
  in_turn-push s [] v = append-nil (code s v)
  in_turn-push s (x ∷ vs) v =
      ap (λ (y : List Bool). code s x ++ y) (in_turn-push (next s x) vs v)
      ∙ sym (append_assoc (code s x) (in_turn code next (next s x) vs) (code (state_behind next (next s x) vs) v))

  pub state_behind-push : (s : S) (vs : List V) (v : V) → state_behind next s (vs ++ v ∷ []) ≡ next (state_behind next s vs) v
  unfolding state_behind
  state_behind-push s [] v = refl
  state_behind-push s (x ∷ vs) v = state_behind-push (next s x) vs v

  pub AreInTurn-nil : (s : S) → AreInTurn IsV next s []
  unfolding AreInTurn
  AreInTurn-nil s = tt

  pub AreInTurn-push : (s : S) (vs : List V) (v : V) → AreInTurn IsV next s vs → IsV (state_behind next s vs) v → AreInTurn IsV next s (vs ++ v ∷ [])
  unfolding AreInTurn state_behind
  AreInTurn-push s [] v h k = (k, tt)
  AreInTurn-push s (x ∷ vs) v h k = (h.0, AreInTurn-push (next s x) vs v h.1 k)

  -- One more element has been read.
  pub read_more : (s : S) (vs : List V) (v : V) (old mid new : List Bool) → old ≡ in_turn code next s vs ++ mid → mid ≡ code (state_behind next s vs) v ++ new
      → old ≡ in_turn code next s (vs ++ v ∷ []) ++ new
  read_more s vs v old mid new e f =
      e ∙ ap (λ (y : List Bool). in_turn code next s vs ++ y) f ∙ sym (append_assoc (in_turn code next s vs) (code (state_behind next s vs) v) new)
      ∙ ap (λ (y : List Bool). y ++ new) (sym (in_turn-push s vs v))

  pub turns_prefix_free : ((s : S) → IsPrefixFree (IsV s) (code s)) → (s : S) (vs ws : List V) (after_v after_w : List Bool) → length vs ≡ length ws
      → AreInTurn IsV next s vs → AreInTurn IsV next s ws → in_turn code next s vs ++ after_v ≡ in_turn code next s ws ++ after_w → (vs ≡ ws) × (after_v ≡ after_w)
  unfolding in_turn AreInTurn
  turns_prefix_free free s [] [] after_v after_w l h k e = (refl, e)
  turns_prefix_free free s [] (w ∷ ws) after_v after_w l h k e = absurd (omega (arith, l))
  turns_prefix_free free s (v ∷ vs) [] after_v after_w l h k e = absurd (omega (arith, l))
  turns_prefix_free free s (v ∷ vs) (w ∷ ws) after_v after_w l h k e =
      let rest_v = in_turn code next (next s v) vs in
      let rest_w = in_turn code next (next s w) ws in
      let first = free s v w (rest_v ++ after_v) (rest_w ++ after_w) h.0 k.0 (sym (append_assoc (code s v) rest_v after_v) ∙ e ∙ append_assoc (code s w) rest_w after_w) in
      let back : w ≡ v = sym first.0 in
      let tail = turns_prefix_free free (next s v) vs ws after_v after_w (omega (arith, l)) h.1
      (subst (λ (x : V). AreInTurn IsV next (next s x) ws) back k.1)
      (first.1 ∙ ap (λ (x : V). in_turn code next (next s x) ws ++ after_w) back) in
      (ap₂ (λ (x : V) (xs : List V). x ∷ xs) first.0 tail.0, tail.1)

  -- Some elements have been read, and none can be read behind them: so no longer list of them begins the bits.
  pub none_in_turn : ((s : S) → IsPrefixFree (IsV s) (code s)) → (s : S) (vs ws : List V) (old mid rest : List Bool) → length vs < length ws
      → AreInTurn IsV next s vs → old ≡ in_turn code next s vs ++ mid → BeginsNone (IsV (state_behind next s vs)) (code (state_behind next s vs)) mid
      → AreInTurn IsV next s ws → old ≡ in_turn code next s ws ++ rest → ⊥
  unfolding in_turn AreInTurn state_behind
  none_in_turn free s [] [] old mid rest l h e none k f = omega (arith, l)
  none_in_turn free s (v ∷ vs) [] old mid rest l h e none k f = omega (arith, l)
  none_in_turn free s [] (w ∷ ws) old mid rest l h e none k f =
      none w (in_turn code next (next s w) ws ++ rest) k.0 (sym e ∙ f ∙ append_assoc (code s w) (in_turn code next (next s w) ws) rest)
  none_in_turn free s (v ∷ vs) (w ∷ ws) old mid rest l h e none k f =
      let rest_v = in_turn code next (next s v) vs in
      let rest_w = in_turn code next (next s w) ws in
      let first = free s v w (rest_v ++ mid) (rest_w ++ rest) h.0 k.0
      (sym (append_assoc (code s v) rest_v mid) ∙ sym e ∙ f ∙ append_assoc (code s w) rest_w rest) in
      let back : w ≡ v = sym first.0 in
      none_in_turn free (next s v) vs ws (rest_v ++ mid) mid rest (omega (arith, l)) h.1 refl none
      (subst (λ (x : V). AreInTurn IsV next (next s x) ws) back k.1)
      (first.1 ∙ ap (λ (x : V). in_turn code next (next s x) ws ++ rest) back)

-- going over elements that all have codes

module _ {S V : Type 0} (IsV : S → V → Type 0) (code : S → V → List Bool) (next : S → V → S) where
  pub is_at : (s : S) (vs : List V) (k : ℕ) (d : V) → k < length vs → AreInTurn IsV next s vs → IsV (state_behind next s (take k vs)) (get_or vs k d)
  unfolding AreInTurn state_behind
  is_at s [] k d below h = absurd (omega (arith, below))
  is_at s (v ∷ vs) zero d below h = h.0
  is_at s (v ∷ vs) (suc k) d below h = is_at (next s v) vs k d (omega (arith, below)) h.1

  pub written_more : (s : S) (vs : List V) (k : ℕ) (d : V) (start old new : List Bool) → k < length vs → old ≡ start ++ in_turn code next s (take k vs) → new ≡ old ++ code (state_behind next s (take k vs)) (get_or vs k d)
      → new ≡ start ++ in_turn code next s (take (k + 1) vs)
  written_more s vs k d start old new below e f =
      f ∙ ap (λ (x : List Bool). x ++ code (state_behind next s (take k vs)) (get_or vs k d)) e
      ∙ append_assoc start (in_turn code next s (take k vs)) (code (state_behind next s (take k vs)) (get_or vs k d))
      ∙ ap (λ (x : List Bool). start ++ x) (sym (in_turn-push IsV code next s (take k vs) (get_or vs k d)) ∙ ap (in_turn code next s) (sym (take_more vs k d below)))

  pub state_more : (s : S) (vs : List V) (k : ℕ) (d : V) → k < length vs → state_behind next s (take (k + 1) vs) ≡ next (state_behind next s (take k vs)) (get_or vs k d)
  state_more s vs k d below = ap (state_behind next s) (take_more vs k d below) ∙ state_behind-push IsV code next s (take k vs) (get_or vs k d)

  pub written_none : (s : S) (vs : List V) (start : List Bool) → start ≡ start ++ in_turn code next s (take 0 vs)
  unfolding in_turn
  written_none s vs start = sym (append-nil start)

  pub state_none : (s : S) (vs : List V) → s ≡ state_behind next s (take 0 vs)
  unfolding state_behind
  state_none s vs = refl
