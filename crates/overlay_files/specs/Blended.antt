-- A bitmap over the pixels of a picture, by its alpha.
use Rattle.std.specs.Prelude.{◌≡◌, ◌⊎◌, ℕ, ◌+◌, ◌-◌, ◌*◌, ◌/◌, ◌<◌, ◌≤◌, List, [], ◌∷◌, slice_index}
use Rattle.overlay_files.specs.Pixels.{PixelArray, pixel}

-- a colour over another one: alpha is the upper one's share of 255, and the sum is rounded to the nearest
abbrev pub colour_over : ℕ → ℕ → ℕ → ℕ
colour_over upper alpha lower = (upper * alpha + lower * (255 - alpha) + 127) / 255

-- a pixel of red, green, blue and alpha over one of blue, green and red: an opaque pixel in the lower one's order
abbrev pub over : List ℕ → List ℕ → List ℕ
over upper lower =
    colour_over (slice_index upper 2) (slice_index upper 3) (slice_index lower 0)
    ∷ colour_over (slice_index upper 1) (slice_index upper 3) (slice_index lower 1)
    ∷ colour_over (slice_index upper 0) (slice_index upper 3) (slice_index lower 2)
    ∷ 255 ∷ []

-- the place in column px of row py is left or right of the bitmap whose first pixel is at (x, y), or above or below it
abbrev pub IsBeside : PixelArray → ℕ → ℕ → ℕ → ℕ → Type 0
IsBeside bitmap x y px py = (px < x) ⊎ ((x + bitmap.width ≤ px) ⊎ ((py < y) ⊎ (y + bitmap.height ≤ py)))

-- The pixels after are those before with the bitmap over them, whose first pixel is at (x, y): each pixel of the bitmap that
-- falls inside lies over the one there, and all others stay.
pub record IsBlended (before bitmap : PixelArray) (x y : ℕ) (after : PixelArray) : Type 0 where
  pub under : (i j : ℕ) → i < bitmap.width → j < bitmap.height → x + i < before.width → y + j < before.height → pixel after (x + i) (y + j) ≡ over (pixel bitmap i j) (pixel before (x + i) (y + j))
  pub beside : (px py : ℕ) → px < before.width → py < before.height → IsBeside bitmap x y px py → pixel after px py ≡ pixel before px py
