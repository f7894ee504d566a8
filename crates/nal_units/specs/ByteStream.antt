-- A byte stream that is written from its units.
use Rattle.std.specs.Prelude.{ℕ, ◌+◌, List, [], ◌∷◌, length, slice_range, map}

-- 00 00 00 01
abbrev pub start_code : List ℕ
start_code = 0 ∷ 0 ∷ 0 ∷ 1 ∷ []

-- where units stand that follow one another from a place on, each behind such a start code
abbrev pub joined_places : ℕ → List (List ℕ) → List (ℕ × ℕ)
joined_places from [] = []
joined_places from (unit ∷ units) = (from + 4, from + 4 + length unit) ∷ joined_places (from + 4 + length unit) units

-- the bytes of the text at each of these places
abbrev pub bytes_at : List ℕ → List (ℕ × ℕ) → List (List ℕ)
bytes_at text places = map (λ place. slice_range text place.0 place.1) places
