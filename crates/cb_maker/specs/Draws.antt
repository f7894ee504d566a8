-- Draws: numbers from a state that each draw changes, and what is made of them one behind the other.
use Rattle.std.specs.Prelude.{ℕ, zero, suc, ◌+◌, ◌*◌, ◌/◌, ◌%◌, ◌^◌, List, [], ◌∷◌, ◌++◌, ℤ, pos, ◌-ℤ◌}

-- what is drawn from a state: a value, and the state behind it
abbrev pub Drawn : Type 0 → Type 0
Drawn A = ℕ → A × ℕ

-- nothing is drawn
abbrev pub Made : {A : Type 0} → A → Drawn A
Made value state = (value, state)

-- one draw behind another, as a `do` writes it
infixl 10 ◌>>=◌
unfoldable pub ◌>>=◌ : {A B : Type 0} → Drawn A → (A → Drawn B) → Drawn B
(first >>= next) state = next (first state).0 (first state).1

-- so many, one behind the other: for each number below, what is drawn for it
unfoldable pub each_below : {A : Type 0} → ℕ → (ℕ → Drawn A) → Drawn (List A)
each_below zero one = Made []
each_below (suc n) one = do
  before ← each_below n one
  last ← one n
  Made (before ++ last ∷ [])

-- the state behind one draw: a linear congruential generator of 64 bits
abbrev pub next_state : ℕ → ℕ
next_state state = (state * 6364136223846793005 + 1442695040888963407) % 2 ^ 64

-- a number below n, from the high bits of the state
unfoldable pub draw : ℕ → Drawn ℕ
draw n state = (next_state state / 2 ^ 33 % n, next_state state)

-- a number from -most to most
unfoldable pub draw_around : ℕ → Drawn ℤ
draw_around most = do
  number ← draw (2 * most + 1)
  Made (pos number -ℤ pos most)
