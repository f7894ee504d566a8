-- Arrays of pixels of four bytes each.
use Rattle.std.specs.Prelude.{◌≡◌, ℕ, ◌+◌, ◌*◌, ◌≤◌, List, length}
use Rattle.mixer.specs.Mixed.{pixel_at}

-- an array of pixels: its sides, and its bytes row by row from the top, each row from the left, four to a pixel
pub record PixelArray : Type 0 where
  pub width : ℕ
  pub height : ℕ
  pub bytes : List ℕ

-- bytes that stand row by row, as an array of these sides
abbrev pub pixels_of : ℕ → ℕ → List ℕ → PixelArray
pixels_of width height bytes = record { width = width; height = height; bytes = bytes }

-- the four bytes of the pixel in column x of row y, both counted from 0
abbrev pub pixel : PixelArray → ℕ → ℕ → List ℕ
pixel a x y = pixel_at a.bytes (y * a.width + x)

-- the longest side of a bitmap
abbrev pub longest_side : ℕ
longest_side = 1024

pub record IsSide (side : ℕ) : Type 0 where
  pub some : 1 ≤ side
  pub most : side ≤ longest_side

-- the sides are a bitmap's, and there are four bytes for each pixel
pub record IsBitmap (a : PixelArray) : Type 0 where
  pub width : IsSide a.width
  pub height : IsSide a.height
  pub count : length a.bytes ≡ 4 * (a.width * a.height)
