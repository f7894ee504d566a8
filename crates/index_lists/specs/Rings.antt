-- Lists that are closed to rings. No public clause cites this module.
use Rattle.std.specs.Prelude.{◌≡◌, ℕ, zero, suc, ◌+◌, ◌<◌, ◌≤◌, nat_lt, if◌then◌else◌, List, [], ◌∷◌, map, length, drop, Contains, slice_index}
use Rattle.index_lists.specs.Lists.{list_at}

-- what a contract sees of `Rings`: numbers below `nodes` may stand in the lists
pub record NodeLists : Type 0 where
  pub nodes : ℕ
  pub lists : List (List ℕ)

-- The number stands in some list.
abbrev pub IsInSome : List (List ℕ) → ℕ → Type 0
IsInSome lists n = (list : ℕ) × Contains (list_at lists list) n

-- the nodes from this number on, up to the first that is no node, and at most so many
abbrev pub walk : ℕ → List ℕ → ℕ → ℕ → List ℕ
walk nodes next zero n = []
walk nodes next (suc most) n = if nat_lt n nodes then n ∷ walk nodes next most (slice_index next n) else []

-- the lists, each from what follows its own number
abbrev pub lists_in : ℕ → List ℕ → List (List ℕ)
lists_in nodes next = map (walk nodes next nodes) (drop nodes next)

-- From a, these follow one another up to b, and each has the one before it as its previous one.
abbrev pub IsPath : List ℕ → List ℕ → ℕ → List ℕ → ℕ → Type 0
IsPath next previous a [] b = (slice_index next a ≡ b) × (slice_index previous b ≡ a)
IsPath next previous a (x ∷ xs) b = (slice_index next a ≡ x) × (slice_index previous x ≡ a) × IsPath next previous x xs b

abbrev pub AreBelow : ℕ → List ℕ → Type 0
AreBelow bound xs = (x : ℕ) → Contains xs x → x < bound

-- The neighbours say just these lists.
pub record AreRings (nodes : ℕ) (next previous : List ℕ) (lists : List (List ℕ)) : Type 0 where
  pub nexts : length next ≡ nodes + length lists
  pub previouses : length previous ≡ nodes + length lists
  pub ring : (i : ℕ) → i < length lists → IsPath next previous (nodes + i) (list_at lists i) (nodes + i)
  pub below : (i : ℕ) → AreBelow nodes (list_at lists i)
  pub short : (i : ℕ) → length (list_at lists i) ≤ nodes

abbrev pub IsSound : ℕ → List ℕ → List ℕ → Type 0
IsSound nodes next previous = AreRings nodes next previous (lists_in nodes next)
