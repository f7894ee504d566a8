-- What a shelf tells of its files, and what a read gives of one.
use Rattle.std.specs.Prelude.{◌≡◌, ℕ, ◌<◌, ◌≤◌, List, ◌++◌, length, take, drop, None, Some}
use Rattle.std.specs.declared.option.Option.{Option}

-- the bytes of each file that is held, by the bytes of its name
abbrev pub Files : Type 0
Files = List ℕ → Option (List ℕ)

-- the bytes that are told of a file: none where the shelf tells nothing, or doesn't hold the name
abbrev pub told : Option Files → List ℕ → Option (List ℕ)
told None name = None
told (Some files) name = files name

-- the shelf tells its files, and this name isn't among them
abbrev pub IsMissing : Option Files → List ℕ → Type 0
IsMissing None name = ⊥
IsMissing (Some files) name = files name ≡ None

-- A read at a place of a file: n bytes came into the front of the buffer, whose rest is as before.
-- No byte comes into a buffer that has room only at the file's end.
pub record Fills (file : List ℕ) (at n : ℕ) (old new : List ℕ) : Type 0 where
  pub given : new ≡ take n (drop at file) ++ drop n old
  pub within : n ≤ length (drop at file)
  pub end : n ≡ 0 → 0 < length old → length file ≤ at
