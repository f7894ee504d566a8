-- What is true of each list of objects. No public clause cites this module.
use Rattle.std.specs.Prelude.{◌≡◌, ◌≢◌, ℕ, ◌<◌, ◌≤◌, true, if◌then◌else◌, List, [], ◌∷◌, length, count_by, slice_get, Option, Some, None}
use Rattle.handle_table.specs.Given.{HasGiven}
use Rattle.handle_table.specs.Handles.{Handles, lookup}
use Rattle.driver_objects.specs.Listed.{called}
use Rattle.driver_objects.specs.declared.object.Object.{Object}

-- the place of the first live object of this kind and name
abbrev pub called_place : ℕ → ℕ → List Object → Option ℕ
called_place kind name [] = None
called_place kind name (object ∷ later) = if called kind name object then Some object.place else called_place kind name later

pub record IsSound (names : Handles ℕ) (kept : List Object) (made : ℕ) : Type 0 where
  -- the objects stand by rising places, below the next one's
  pub rising : (i j : ℕ) (a b : Object) → i < j → slice_get kept i ≡ Some a → slice_get kept j ≡ Some b → a.place < b.place
  pub below : (i : ℕ) (object : Object) → slice_get kept i ≡ Some object → object.place < made
  -- no two live ones have one name
  pub apart : (i j : ℕ) (a b : Object) → i < j → slice_get kept i ≡ Some a → slice_get kept j ≡ Some b → a.is_live ≡ true → b.is_live ≡ true → a.name ≢ b.name
  -- by its kind and name each is found, and nothing else is
  pub named : (kind name : ℕ) → lookup names.live kind name ≡ called_place kind name kept
  pub counted : length names.live ≡ count_by (λ object. object.is_live) kept
  pub few : length names.live ≤ 1024
  -- so many names were given
  pub given : ∥ ((all : List ℕ) × HasGiven names all × (length all ≡ made)) ∥₁
