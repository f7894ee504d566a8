-- A picture has its pixels: byte by byte, each has a value.
use Rattle.std.proofs.Common.{◌≡◌, ℕ, ◌+◌, ◌*◌, ◌/◌, ◌%◌, ◌<◌, Bool, true, false, cond, eqb, List, [], ◌∷◌, get_or, refl, ap, ◌∙◌, arith}
use Rattle.std.specs.Prelude.{ℤ}
use Rattle.std.proofs.lemmas.Nat.{div-mul-add, mod-mul-add, mul-add-lt}
use Rattle.mixer.specs.Mixed.{IsMixed, colour, mixed, pixel, pixel_at}
use Rattle.vd_plane.specs.SampleArray.{sample}
use Rattle.vd_plane.specs.declared.picture.Picture.{Picture}
use Rattle.render_outcomes.specs.Bytes.{MixedBytesExist}
use Rattle.render_outcomes.proofs.Tables.{length-values, values, values_at}

-- the bytes of pixels with these numbers
bytes_in_order : (ℕ → List ℕ) → ℕ → List ℕ
bytes_in_order pixels count = values (λ n. get_or (pixels (n / 4)) (n % 4) 0) (4 * count)

byte_at : (pixels : ℕ → List ℕ) (count n k i : ℕ) → k < count → i < 4 → n ≡ 4 * k + i → get_or (bytes_in_order pixels count) n 0 ≡ get_or (pixels k) i 0
unfolding bytes_in_order
byte_at pixels count n k i within few place =
    let of : n / 4 ≡ k = omega arith in
    let rest : n % 4 ≡ i = omega arith in
    values_at (λ m. get_or (pixels (m / 4)) (m % 4) 0) (4 * count) n 0 (omega arith)
    ∙ (ap (λ m. get_or (pixels m) (n % 4) 0) of ∙ ap (λ m. get_or (pixels k) m 0) rest)

four_same : (a b c d a' b' c' d' : ℕ) → a ≡ a' → b ≡ b' → c ≡ c' → d ≡ d' → (a ∷ b ∷ c ∷ d ∷ []) ≡ (a' ∷ b' ∷ c' ∷ d' ∷ [])
four_same a b c d a' b' c' d' e f g h = cc

pixel_is : (pixels : ℕ → List ℕ) (count k : ℕ) → k < count → pixel_at (bytes_in_order pixels count) k ≡ pixel_at (pixels k) 0
pixel_is pixels count k within =
    four_same _ _ _ _ _ _ _ _
    (byte_at pixels count (4 * k) k 0 within (omega arith) (omega arith))
    (byte_at pixels count (4 * k + 1) k 1 within (omega arith) (omega arith))
    (byte_at pixels count (4 * k + 2) k 2 within (omega arith) (omega arith))
    (byte_at pixels count (4 * k + 3) k 3 within (omega arith) (omega arith))

-- a pixel has four bytes
four_bytes : (first : Bool) (red green blue : ℕ) → pixel_at (cond first (blue ∷ green ∷ red ∷ 255 ∷ []) (red ∷ green ∷ blue ∷ 255 ∷ [])) 0 ≡ cond first (blue ∷ green ∷ red ∷ 255 ∷ []) (red ∷ green ∷ blue ∷ 255 ∷ [])
four_bytes true red green blue = refl
four_bytes false red green blue = refl

four_of_pixel : (format red green blue : ℕ) → pixel_at (pixel format red green blue) 0 ≡ pixel format red green blue
four_of_pixel format red green blue = four_bytes (eqb format 0) red green blue

four_of_mixed : (picture : Picture) (matrix : List ℤ) (format x y : ℕ) → pixel_at (mixed picture matrix format x y) 0 ≡ mixed picture matrix format x y
four_of_mixed picture matrix format x y =
    let luma : ℕ = sample picture.y x y in
    let cb : ℕ = sample picture.cb (x / 2) (y / 2) in
    let cr : ℕ = sample picture.cr (x / 2) (y / 2) in
    four_of_pixel format (colour matrix 0 luma cb cr) (colour matrix 1 luma cb cr) (colour matrix 2 luma cb cr)

module _ (picture : Picture) (matrix : List ℤ) (format : ℕ) where
  -- the pixel with a number
  pixel_of_number : ℕ → List ℕ
  pixel_of_number n = mixed picture matrix format (n % picture.y.width) (n / picture.y.width)

  pixel_of_place : (x y : ℕ) → x < picture.y.width → pixel_of_number (y * picture.y.width + x) ≡ mixed picture matrix format x y
  unfolding pixel_of_number
  pixel_of_place x y across =
      ap (λ column. mixed picture matrix format column ((y * picture.y.width + x) / picture.y.width)) (mod-mul-add y picture.y.width x across)
      ∙ ap (mixed picture matrix format x) (div-mul-add y picture.y.width x across)

  pub mixed_bytes : List ℕ
  mixed_bytes = bytes_in_order pixel_of_number (picture.y.width * picture.y.height)

  pub is_mixed : IsMixed picture matrix format mixed_bytes
  unfolding mixed_bytes bytes_in_order
  is_mixed = record {
    count = length-values _ (4 * (picture.y.width * picture.y.height));
    pixels = λ x y across down.
        pixel_is pixel_of_number (picture.y.width * picture.y.height) (y * picture.y.width + x) (mul-add-lt y picture.y.width x picture.y.height down across)
        ∙ (ap (λ p. pixel_at p 0) (pixel_of_place x y across) ∙ four_of_mixed picture matrix format x y);
  }

pub mixed_bytes_exist : MixedBytesExist
mixed_bytes_exist picture matrix format = (mixed_bytes picture matrix format, is_mixed picture matrix format)
