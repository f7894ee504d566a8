-- Arrays of samples (H.264, 6.2), which is what contracts see of a plane.
use Rattle.std.specs.Prelude.{◌≡◌, ℕ, ◌+◌, ◌-◌, ◌*◌, ◌<◌, ◌≤◌, min, ℤ, pos, negsuc, Bool, ◌&&◌, nat_lt, nat_le, List, length, take, drop, replicate, slice_index}

-- an array of samples: its sides, and its samples row by row from the top, each row from the left
pub record SampleArray : Type 0 where
  pub width : ℕ
  pub height : ℕ
  pub samples : List ℕ

-- row y from left to right
unfoldable pub row : SampleArray → ℕ → List ℕ
row a y = take a.width (drop (y * a.width) a.samples)

-- the sample in column x of row y, both counted from 0, and 0 outside the array
unfoldable pub sample : SampleArray → ℕ → ℕ → ℕ
sample a x y = slice_index (row a y) x

-- column x and row y are inside
pub record IsInside (a : SampleArray) (x y : ℕ) : Type 0 where
  pub column : x < a.width
  pub row : y < a.height

-- the number of 0 to side - 1 that is nearest to z, which is Clip3( 0, side - 1, z ) (H.264, 5.7)
abbrev pub nearest : ℕ → ℤ → ℕ
nearest side (pos n) = min n (side - 1)
nearest side (negsuc n) = 0

-- the sample at the place inside that is nearest to column x and row y (H.264, 8.4.2.2.1 and 8.4.2.2.2)
abbrev pub nearest_sample : SampleArray → ℤ → ℤ → ℕ
nearest_sample a x y = sample a (nearest a.width x) (nearest a.height y)

-- samples that stand row by row, as an array of these sides
abbrev pub array_of : ℕ → ℕ → List ℕ → SampleArray
array_of width height samples = record { width = width; height = height; samples = samples }

-- the array whose samples are all equal
abbrev pub filled : ℕ → ℕ → ℕ → SampleArray
filled width height value = array_of width height (replicate (width * height) value)

-- a rectangle of places: its first column, its first row, and its sides
pub record Rect : Type 0 where
  pub left : ℕ
  pub top : ℕ
  pub width : ℕ
  pub height : ℕ

abbrev pub rect_at : ℕ → ℕ → ℕ → ℕ → Rect
rect_at left top width height = record { left = left; top = top; width = width; height = height }

-- whether column x and row y are in the rectangle
abbrev pub covers : Rect → ℕ → ℕ → Bool
covers r x y = (nat_le r.left x && nat_lt x (r.left + r.width)) && (nat_le r.top y && nat_lt y (r.top + r.height))

-- the number of a place among those of the rectangle, which are counted row by row from 0
abbrev pub number_in : Rect → ℕ → ℕ → ℕ
number_in r x y = (y - r.top) * r.width + (x - r.left)

-- what each plane is: an array with one sample for each place, and sides of 1 to 4,096
pub record IsPlane (a : SampleArray) : Type 0 where
  pub count : length a.samples ≡ a.width * a.height
  pub some_column : 1 ≤ a.width
  pub columns : a.width ≤ 4096
  pub some_row : 1 ≤ a.height
  pub rows : a.height ≤ 4096

-- new has the sides of old, and as many samples
pub record SameSides (old new : SampleArray) : Type 0 where
  pub width : new.width ≡ old.width
  pub height : new.height ≡ old.height
  pub count : length new.samples ≡ length old.samples

-- The sides and the sample at each place inside are all that there is to a plane.
abbrev pub PlanesAreTheirSamples : Type 0
PlanesAreTheirSamples =
    (a b : SampleArray)
    → IsPlane a
    → IsPlane b
    → SameSides a b
    → ((x y : ℕ) → IsInside a x y → sample a x y ≡ sample b x y)
    → a ≡ b
