-- Bitmaps as the bytes of a file.
use Rattle.std.specs.Prelude.{◌≡◌, ℕ, List, [], ◌∷◌, ◌++◌, codes, decimal}
use Rattle.overlay_files.specs.Pixels.{IsBitmap, PixelArray}

-- the sides in decimal without leading zeros, in a line of their own
abbrev pub header_text : ℕ → ℕ → List ℕ
header_text width height = codes "RGBA " ++ (decimal width ++ 32 ∷ (decimal height ++ 10 ∷ []))

-- behind that line red, green, blue and alpha of each pixel, and nothing more
abbrev pub bitmap_text : PixelArray → List ℕ
bitmap_text a = header_text a.width a.height ++ a.bytes

-- The bytes are a file of this bitmap.
pub record IsBitmapFile (a : PixelArray) (text : List ℕ) : Type 0 where
  pub bitmap : IsBitmap a
  pub is : text ≡ bitmap_text a
