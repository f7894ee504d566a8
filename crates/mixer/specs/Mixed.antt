-- A picture's samples as pixels of red, green and blue, by a matrix (vdpau.h, VdpCSCMatrix and VdpVideoMixerRender).
use Rattle.std.specs.Prelude.{◌≡◌, ℕ, ◌+◌, ◌*◌, ◌/◌, ◌<◌, ◌==◌, if◌then◌else◌, List, [], ◌∷◌, length, slice_index, slice_index_or, ℤ, pos, ◌+ℤ◌, ◌*ℤ◌}
use Rattle.std.specs.Int.{int_shr}
use Rattle.mixer.specs.declared.TheConstants.{B8G8R8A8}
use Rattle.vd_plane.specs.SampleArray.{nearest, sample}
use Rattle.vd_plane.specs.declared.picture.Picture.{Picture}

-- the matrix stands row by row: those of red, green and blue, each with the coefficients of Y, Cb and Cr and a constant
abbrev pub coefficient : List ℤ → ℕ → ℕ → ℤ
coefficient matrix row column = slice_index_or matrix (4 * row + column) (pos 0)

-- one row of the matrix times Y, Cb, Cr and 1
abbrev pub weighted_sum : ℤ → ℤ → ℤ → ℤ → ℕ → ℕ → ℕ → ℤ
weighted_sum of_y of_cb of_cr constant y cb cr = ((of_y *ℤ pos y +ℤ of_cb *ℤ pos cb) +ℤ of_cr *ℤ pos cr) +ℤ constant

-- coefficients count 256 to the whole: rounded, and brought into 0 to 255
abbrev pub rounded : ℤ → ℕ
rounded z = nearest 256 (int_shr (z +ℤ pos 128) 8)

-- red, green or blue, which are 0 to 2
abbrev pub colour : List ℤ → ℕ → ℕ → ℕ → ℕ → ℕ
colour matrix row y cb cr = rounded (weighted_sum (coefficient matrix row 0) (coefficient matrix row 1) (coefficient matrix row 2) (coefficient matrix row 3) y cb cr)

-- the bytes of an opaque pixel, by their order in memory
abbrev pub pixel : ℕ → ℕ → ℕ → ℕ → List ℕ
pixel format red green blue = if format == B8G8R8A8 then blue ∷ green ∷ red ∷ 255 ∷ [] else red ∷ green ∷ blue ∷ 255 ∷ []

-- the pixel of these samples
abbrev pub pixel_of : List ℤ → ℕ → ℕ → ℕ → ℕ → List ℕ
pixel_of matrix format y cb cr = pixel format (colour matrix 0 y cb cr) (colour matrix 1 y cb cr) (colour matrix 2 y cb cr)

-- the pixel in column x of row y: each chroma sample serves two columns and two rows
abbrev pub mixed : Picture → List ℤ → ℕ → ℕ → ℕ → List ℕ
mixed picture matrix format x y = pixel_of matrix format (sample picture.y x y) (sample picture.cb (x / 2) (y / 2)) (sample picture.cr (x / 2) (y / 2))

-- the four bytes of the pixel with this number
abbrev pub pixel_at : List ℕ → ℕ → List ℕ
pixel_at bytes n = slice_index bytes (4 * n) ∷ slice_index bytes (4 * n + 1) ∷ slice_index bytes (4 * n + 2) ∷ slice_index bytes (4 * n + 3) ∷ []

-- the bytes are the picture's pixels, row by row
pub record IsMixed (picture : Picture) (matrix : List ℤ) (format : ℕ) (bytes : List ℕ) : Type 0 where
  pub count : length bytes ≡ 4 * (picture.y.width * picture.y.height)
  pub pixels : (x y : ℕ) → x < picture.y.width → y < picture.y.height → pixel_at bytes (y * picture.y.width + x) ≡ mixed picture matrix format x y

-- No other bytes are.
abbrev pub PixelsAreAll : Type 0
PixelsAreAll = (picture : Picture) (matrix : List ℤ) (format : ℕ) (one other : List ℕ) → IsMixed picture matrix format one → IsMixed picture matrix format other → one ≡ other
