-- What holds of all that can be drawn.
use Rattle.std.proofs.Common.{◌≡◌, ℕ, zero, suc, ◌<◌, List, [], ◌∷◌, ◌++◌, Bool, true, false, cond, length, get_or, refl, sym, ◌∙◌, subst, arith, inl, inr}
use Rattle.std.proofs.lemmas.Bool.{cases_lt}
use Rattle.std.proofs.lemmas.List.{get_or_append_left, get_or_push, length_push}
use Rattle.std.proofs.lemmas.List.Elements.{All-nil, All-push}
use Rattle.std.specs.List.{All}
use Rattle.cb_maker.specs.Draws.{Drawn, Made, ◌>>=◌, each_below}

abbrev pub Gives : {A : Type 0} → Drawn A → (A → Type 0) → Type 0
Gives {A} one P = (x : ℕ) → P (one x).0

module _ {A B : Type 0} where
  pub gives_then : (first : Drawn A) (next : A → Drawn B) (P : A → Type 0) (Q : B → Type 0) → Gives first P → ((a : A) → P a → Gives (next a) Q) → Gives (first >>= next) Q
  unfolding ◌>>=◌
  gives_then first next P Q h k x = k (first x).0 (h x) (first x).1

module _ {A : Type 0} where
  pub gives_made : (a : A) (P : A → Type 0) → P a → Gives (Made a) P
  gives_made a P h x = h

  pub gives_either : (b : Bool) (one other : Drawn A) (P : A → Type 0) → (b ≡ true → Gives one P) → (b ≡ false → Gives other P) → Gives (cond b one other) P
  gives_either true one other P h k = h refl
  gives_either false one other P h k = k refl

module _ {A : Type 0} where
  -- so many, of which each is as its number says
  pub record AreBelow (P : ℕ → A → Type 0) (n : ℕ) (xs : List A) : Type 0 where
    pub size : length xs ≡ n
    pub each : (k : ℕ) (d : A) → k < n → P k (get_or xs k d)

  pushed : (P : ℕ → A → Type 0) (n : ℕ) (xs : List A) (v : A) → AreBelow P n xs → P n v → (k : ℕ) (d : A) → k < suc n → P k (get_or (xs ++ v ∷ []) k d)
  pushed P n xs v h is k d below =
      elim (cases_lt k n) [
        | inl less ↦ subst (P k) (sym (get_or_append_left xs (v ∷ []) d k (omega (arith, less, h.size)))) (h.each k d less)
        | inr past ↦
            let same : k ≡ n = omega (arith, below, past) in
            subst (P k) (sym (get_or_push xs v d k (h.size ∙ sym same))) (subst (λ (j : ℕ). P j v) (sym same) is)
      ]

  push : (P : ℕ → A → Type 0) (n : ℕ) (xs : List A) (v : A) → AreBelow P n xs → P n v → AreBelow P (suc n) (xs ++ v ∷ [])
  push P n xs v h is = record {
    size = length_push xs v ∙ omega (arith, h.size);
    each = λ k d below. pushed P n xs v h is k d below;
  }

  pub gives_below : (n : ℕ) (one : ℕ → Drawn A) (P : ℕ → A → Type 0) → ((k : ℕ) → k < n → Gives (one k) (P k)) → Gives (each_below n one) (AreBelow P n)
  unfolding each_below
  gives_below zero one P h x = record { size = refl; each = λ k d below. absurd (omega arith) }
  gives_below (suc n) one P h x =
      gives_then (each_below n one) _ (AreBelow P n) (AreBelow P (suc n)) (gives_below n one P (λ k below. h k (omega arith)))
      (λ before are. gives_then (one n) _ (P n) (AreBelow P (suc n)) (h n (omega arith))
      (λ last is. gives_made (before ++ last ∷ []) (AreBelow P (suc n)) (push P n before last are is))) x

  abbrev pub AreAll : (A → Type 0) → ℕ → List A → Type 0
  AreAll P n xs = (length xs ≡ n) × All P xs

  pub gives_all : (n : ℕ) (one : ℕ → Drawn A) (P : A → Type 0) → ((k : ℕ) → Gives (one k) P) → Gives (each_below n one) (AreAll P n)
  unfolding each_below
  gives_all zero one P h x = (refl, All-nil P)
  gives_all (suc n) one P h x =
      gives_then (each_below n one) _ (AreAll P n) (AreAll P (suc n)) (gives_all n one P h)
      (λ before are. gives_then (one n) _ P (AreAll P (suc n)) (h n)
      (λ last is. gives_made (before ++ last ∷ []) (AreAll P (suc n)) (length_push before last ∙ omega (arith, are.0), All-push P before last are.1 is))) x
