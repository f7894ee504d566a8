-- Numbers of video surfaces.
use Rattle.std.specs.Prelude.{◌≡◌, ℕ, ◌<◌, List, All, slice_index_or}

-- Each own number's surface is one of them.
abbrev pub AreSurfaces : List ℕ → Type 0
AreSurfaces surfaces = All (λ (surface : ℕ). surface < 34) surfaces

-- No two own numbers have one surface.
abbrev pub AreApart : List ℕ → Type 0
AreApart surfaces =
    (one other : ℕ) → one < 17 → other < 17 → slice_index_or surfaces one 0 ≡ slice_index_or surfaces other 0
    → one ≡ other
