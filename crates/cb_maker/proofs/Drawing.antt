-- What is drawn, step by step.
use Rattle.std.proofs.Common.{◌≡◌, ℕ, suc, ◌+◌, Bool, true, false, if◌then◌else◌, List, [], ◌∷◌, ◌++◌, refl, sym, ap, ◌∙◌, add-one, ℤ}
use Rattle.std.proofs.lemmas.Int.{to_z-of_z}
use mir.Syntax.{w32}
use mir.Val.{SFits, of_z, to_z}
use Rattle.cb_maker.specs.Draws.{Drawn, ◌>>=◌, each_below}

module _ {A B : Type 0} where
  -- one draw, and what is drawn behind it
  pub after : (first : Drawn A) (next : A → Drawn B) (x y : ℕ) (a : A) (r : B × ℕ) → first x ≡ (a, y) → next a y ≡ r → (first >>= next) x ≡ r
  unfolding ◌>>=◌
  after first next x y a r e f = ap (λ (d : A × ℕ). next d.0 d.1) e ∙ f

module _ {A : Type 0} where
  pub none_below : (one : ℕ → Drawn A) (x : ℕ) → each_below 0 one x ≡ ([], x)
  unfolding each_below
  none_below one x = refl

  step : (one : ℕ → Drawn A) (n x y z : ℕ) (before : List A) (last : A) → each_below n one x ≡ (before, y) → one n y ≡ (last, z)
      → each_below (suc n) one x ≡ (before ++ last ∷ [], z)
  unfolding each_below
  step one n x y z before last e f = after (each_below n one) _ x y before (before ++ last ∷ [], z) e (after (one n) _ y z last (before ++ last ∷ [], z) f refl)

  pub more_below : (one : ℕ → Drawn A) (n x y z : ℕ) (before : List A) (last : A) → each_below n one x ≡ (before, y) → one n y ≡ (last, z)
      → each_below (n + 1) one x ≡ (before ++ last ∷ [], z)
  more_below one n x y z before last e f = rw add-one (step one n x y z before last e f)

module _ {A : Type 0} where
  -- a choice between two draws
  pub when_true : (b : Bool) (one other : Drawn A) (x : ℕ) (r : A × ℕ) → b ≡ true → one x ≡ r → (if b then one else other) x ≡ r
  when_true true one other x r e h = h
  when_true false one other x r e h = absurd cc

  pub when_false : (b : Bool) (one other : Drawn A) (x : ℕ) (r : A × ℕ) → b ≡ false → other x ≡ r → (if b then one else other) x ≡ r
  when_false true one other x r e h = absurd cc
  when_false false one other x r e h = h

-- a signed number, as it is answered
pub signed : (p : ℤ × ℕ) (z : ℤ) (y : ℕ) → SFits w32 z → p ≡ (z, y) → p ≡ (to_z w32 (of_z w32 z), y)
signed p z y fits e = e ∙ ap (λ (x : ℤ). (x, y)) (sym (to_z-of_z w32 z fits))
