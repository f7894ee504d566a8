-- Places in a list, sums over it, and numbers that are lists.
use Rattle.std.specs.Prelude.{◌≡◌, ℕ, ◌+◌, ◌==◌, ◌&&◌, nat_lt, Bool, true, false, if◌then◌else◌, List, [], ◌∷◌, length}
use mathlib.Core.Option.{some}
use lib.ListN.{get_elem?}

module _ {A : Type 0} where
  -- this stands at the place j
  abbrev pub At : List A → ℕ → A → Type 0
  At xs j x = get_elem? xs j ≡ some x

  -- one of them is so
  abbrev pub Somewhere : List A → (A → Type 0) → Type 0
  Somewhere xs P = (j : ℕ) × (x : A) × At xs j x × P x

  -- each of them is so
  abbrev pub Each : (A → Type 0) → List A → Type 0
  Each P [] = Unit {0}
  Each P (x ∷ xs) = P x × Each P xs

  -- f of each, added up
  abbrev pub total : (A → ℕ) → List A → ℕ
  total f [] = 0
  total f (x ∷ xs) = f x + total f xs

  -- the longer of two lists, and the other; the first is the longer where they are as long
  abbrev pub longer : List A → List A → List A
  longer xs ys = if nat_lt (length xs) (length ys) then ys else xs

  abbrev pub shorter : List A → List A → List A
  shorter xs ys = if nat_lt (length xs) (length ys) then xs else ys

-- the two numbers of callers are one
abbrev pub same : List ℕ → List ℕ → Bool
same [] [] = true
same [] (n ∷ ns) = false
same (m ∷ ms) [] = false
same (m ∷ ms) (n ∷ ns) = (m == n) && same ms ns

-- how often the number stands in the list
abbrev pub times : List ℕ → List (List ℕ) → ℕ
times c = total (λ n. if same c n then 1 else 0)
