-- Which modes there are, and which samples each needs (H.264, Tables 8-2, 8-4 and 8-5).
use Rattle.std.specs.Prelude.{ℕ, ◌==◌, ◌&&◌, ◌||◌, not, nat_lt, is_some, Bool, List, [], ◌∷◌, Option}
use Rattle.std.specs.List.{list_any}

abbrev pub is_among : ℕ → List ℕ → Bool
is_among mode modes = list_any (λ m. m == mode) modes

-- what a mode needs is there
abbrev pub is_met : Bool → Bool → Bool
is_met needed there = not needed || there

-- each mode below the count is in its table. The three lists are those that need the samples left, those above, and the corner
abbrev pub is_available : ℕ → List ℕ → List ℕ → List ℕ → ℕ → Bool → Bool → Bool → Bool
is_available count need_left need_top need_corner mode left top corner =
    nat_lt mode count && (is_met (is_among mode need_left) left && (is_met (is_among mode need_top) top && is_met (is_among mode need_corner) corner))

abbrev pub is_available4 : ℕ → Option (List ℕ) → Option (List ℕ) → Option ℕ → Bool
is_available4 mode left top corner =
    is_available 9 (1 ∷ 4 ∷ 5 ∷ 6 ∷ 8 ∷ []) (0 ∷ 3 ∷ 4 ∷ 5 ∷ 6 ∷ 7 ∷ []) (4 ∷ 5 ∷ 6 ∷ []) mode (is_some left) (is_some top) (is_some corner)

abbrev pub is_available16 : ℕ → Option (List ℕ) → Option (List ℕ) → Option ℕ → Bool
is_available16 mode left top corner = is_available 4 (1 ∷ 3 ∷ []) (0 ∷ 3 ∷ []) (3 ∷ []) mode (is_some left) (is_some top) (is_some corner)

abbrev pub is_available_chroma : ℕ → Option (List ℕ) → Option (List ℕ) → Option ℕ → Bool
is_available_chroma mode left top corner = is_available 4 (1 ∷ 3 ∷ []) (2 ∷ 3 ∷ []) (3 ∷ []) mode (is_some left) (is_some top) (is_some corner)
