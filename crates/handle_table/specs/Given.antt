-- The names that a table has given.
use Rattle.std.specs.Prelude.{◌≡◌, ◌≢◌, ℕ, ◌<◌, List, length, sum, slice_index, All}
use Rattle.std.specs.List.{AllPairs}
use Rattle.handle_table.specs.Name.{generation_of, index_of}
use Rattle.handle_table.specs.Handles.{Handles}

-- These are as many names as generations were given. Each says a generation that was given at its index, and no two say the
-- same one: so they are the names of just these generations, each once.
pub record AreNames (generations names : List ℕ) : Type 0 where
  pub count : length names ≡ sum generations
  pub each : All (λ name. generation_of name < slice_index generations (index_of name)) names
  pub once : AllPairs (λ a b. index_of a ≡ index_of b → generation_of a ≢ generation_of b) names

-- The table has given just these names since it was made, each once.
abbrev pub HasGiven : {T : Type 0} → Handles T → List ℕ → Type 0
HasGiven t names = AreNames t.generations names
