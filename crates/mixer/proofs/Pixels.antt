-- Pixels by their four bytes, and as they are made of three colours.
use Rattle.std.proofs.Common.{◌≡◌, ℕ, zero, suc, ◌+◌, ◌*◌, ◌/◌, ◌%◌, ◌<◌, ◌≤◌, inl, inr, List, [], ◌∷◌, length, get_or, Bool, true, false, cond, eqb, ℤ, pos, ◌+ℤ◌, ◌*ℤ◌, FitsSigned, to_z, of_z, w32, refl, sym, ap, ap₂, ◌∙◌, arith}
use Rattle.std.specs.Int.{int_shr}
use Rattle.std.proofs.lemmas.Bool.{cases_lt}
use Rattle.std.proofs.lemmas.Int.{ints, to_z-of_z}
use Rattle.std.proofs.lemmas.List.{ext_get_or, places}
use Rattle.std.proofs.lemmas.Nat.{div-add-mod', div_below, mod_below, mul-le}
use borrow.Rule.Slice.PartMut.{put_mid}
use Rattle.mixer.specs.Colours.{IsRow, bytes_under, under}
use Rattle.mixer.specs.Mixed.{PixelsAreAll, colour, pixel_at, pixel_of}
use Rattle.mixer.specs.declared.colours.Colours.{Colours}
use Rattle.mixer.specs.declared.colours.Weights.{Weights}
use Rattle.vd_plane.specs.SampleArray.{nearest}

-- ---- colours

-- a product whose coefficient was kept in 32 bits
pub product_is : (z r : ℤ) (s : ℕ) → FitsSigned w32 z → r ≡ to_z w32 (of_z w32 z) *ℤ pos s → r ≡ z *ℤ pos s
product_is z r s fits is = is ∙ ap (λ (v : ℤ). v *ℤ pos s) (to_z-of_z w32 z fits)

same_sum : (p a b k : ℤ) → p +ℤ (((a +ℤ b) +ℤ k) +ℤ pos 128) ≡ (((p +ℤ a) +ℤ b) +ℤ k) +ℤ pos 128
same_sum p a b k = omega (arith, ints)

-- a colour from its coefficient of luma and the part that chroma has in it, as both were handed over
pub colour_under : (w : Weights) (y cb cr r : ℕ) (of_y s t : ℤ) → of_y ≡ w.of_y → t ≡ s → s ≡ (((w.of_cb *ℤ pos cb) +ℤ (w.of_cr *ℤ pos cr)) +ℤ w.constant) +ℤ pos 128 → r ≡ nearest 256 (int_shr ((of_y *ℤ pos y) +ℤ t) 8) → r ≡ under w y cb cr
colour_under w y cb cr r of_y s t is_y is_t shared is =
    is ∙ ap₂ (λ (u v : ℤ). nearest 256 (int_shr ((u *ℤ pos y) +ℤ v) 8)) is_y (is_t ∙ shared)
    ∙ ap (λ (z : ℤ). nearest 256 (int_shr z 8)) (same_sum (w.of_y *ℤ pos y) (w.of_cb *ℤ pos cb) (w.of_cr *ℤ pos cr) w.constant)

pub four_are : (a b c a' b' c' d : ℕ) → a ≡ a' → b ≡ b' → c ≡ c' → (a ∷ b ∷ c ∷ d ∷ []) ≡ (a' ∷ b' ∷ c' ∷ d ∷ [])
four_are a b c a' b' c' d e f g = cc

colour_is : (matrix : List ℤ) (row : ℕ) (w : Weights) (y cb cr : ℕ) → IsRow matrix row w → under w y cb cr ≡ colour matrix row y cb cr
colour_is matrix row w y cb cr is = rw (is.of_y, is.of_cb, is.of_cr, is.constant) cc

in_order : (matrix : List ℤ) (is_blue_first : Bool) (c : Colours) (y cb cr : ℕ) → IsRow matrix (cond is_blue_first 2 0) c.first → IsRow matrix 1 c.second → IsRow matrix (cond is_blue_first 0 2) c.third
    → bytes_under c y cb cr ≡ cond is_blue_first (colour matrix 2 y cb cr ∷ colour matrix 1 y cb cr ∷ colour matrix 0 y cb cr ∷ 255 ∷ []) (colour matrix 0 y cb cr ∷ colour matrix 1 y cb cr ∷ colour matrix 2 y cb cr ∷ 255 ∷ [])
in_order matrix true c y cb cr first second third = four_are _ _ _ _ _ _ 255 (colour_is matrix 2 c.first y cb cr first) (colour_is matrix 1 c.second y cb cr second) (colour_is matrix 0 c.third y cb cr third)
in_order matrix false c y cb cr first second third = four_are _ _ _ _ _ _ 255 (colour_is matrix 0 c.first y cb cr first) (colour_is matrix 1 c.second y cb cr second) (colour_is matrix 2 c.third y cb cr third)

-- the colours in the order of their bytes make the pixel of the format
pub bytes_are_pixel : (matrix : List ℤ) (format : ℕ) (c : Colours) (y cb cr : ℕ) → IsRow matrix (cond (eqb format 0) 2 0) c.first → IsRow matrix 1 c.second → IsRow matrix (cond (eqb format 0) 0 2) c.third → bytes_under c y cb cr ≡ pixel_of matrix format y cb cr
bytes_are_pixel matrix format c y cb cr first second third = in_order matrix (eqb format 0) c y cb cr first second third

pub bytes_same : (c : Colours) (y cb cr y' cb' cr' : ℕ) → y ≡ y' → cb ≡ cb' → cr ≡ cr' → bytes_under c y cb cr ≡ bytes_under c y' cb' cr'
bytes_same c y cb cr y' cb' cr' e f g = rw (e, f, g) refl

-- ---- pixels in lists of bytes

before_part : (a k i : ℕ) (s t : List ℕ) → i < a → a ≤ length s → get_or (put_mid a k s t) i 0 ≡ get_or s i 0
before_part a k i s t lt within = grind (arith, places)

in_part : (a k i : ℕ) (s t : List ℕ) → a ≤ length s → i < length t → get_or (put_mid a k s t) (a + i) 0 ≡ get_or t i 0
in_part a k i s t within lt = grind (arith, places)

at_start : (n : ℕ) → 4 * n + 0 ≡ 4 * n
at_start n = omega arith

four_of : (s t : List ℕ) (n m : ℕ) → ((i : ℕ) → i < 4 → get_or s (4 * n + i) 0 ≡ get_or t (4 * m + i) 0) → pixel_at s n ≡ pixel_at t m
four_of s t n m same =
    let first : get_or s (4 * n) 0 ≡ get_or t (4 * m) 0 = ap (λ i. get_or s i 0) (sym (at_start n)) ∙ (same 0 (omega arith) ∙ ap (λ i. get_or t i 0) (at_start m)) in
    let second = same 1 (omega arith) in
    let third = same 2 (omega arith) in
    let fourth = same 3 (omega arith) in
    cc

-- a pixel before the part of a list that was replaced, and one in it
pub pixel_before : (a k n : ℕ) (s t : List ℕ) → 4 * n + 4 ≤ a → a ≤ length s → pixel_at (put_mid a k s t) n ≡ pixel_at s n
pixel_before a k n s t lt within = four_of (put_mid a k s t) s n n (λ i few. before_part a k (4 * n + i) s t (omega (arith, lt, few)) within)

pub pixel_inside : (a k n m : ℕ) (s t : List ℕ) → 4 * n ≡ a + 4 * m → a ≤ length s → 4 * m + 4 ≤ length t → pixel_at (put_mid a k s t) n ≡ pixel_at t m
pixel_inside a k n m s t place within lt =
    four_of (put_mid a k s t) t n m
    (λ i few.
    let at : 4 * n + i ≡ a + (4 * m + i) = omega (arith, place) in
    ap (λ j. get_or (put_mid a k s t) j 0) at ∙ in_part a k (4 * m + i) s t within (omega (arith, lt, few)))

-- one more pixel of a row is written
pub pixel_more : (f : ℕ → List ℕ) (x k : ℕ) (s t : List ℕ) → 4 * x + 4 ≤ length s → 4 ≤ length t
    → ((j : ℕ) → j < x → pixel_at s j ≡ f j)
    → pixel_at t 0 ≡ f x
    → (j : ℕ) → j < x + 1 → pixel_at (put_mid (4 * x) k s t) j ≡ f j
pixel_more f x k s t within long before here j lt = elim (cases_lt j x) [
  | inl less ↦ pixel_before (4 * x) k j s t (omega (arith, less)) (omega (arith, within)) ∙ before j less
  | inr le ↦
      let same : j ≡ x = omega (arith, le, lt) in
      ap (pixel_at (put_mid (4 * x) k s t)) same ∙ (pixel_inside (4 * x) k x 0 s t (omega arith) (omega (arith, within)) (omega (arith, long)) ∙ (here ∙ ap f (sym same)))
]

-- one more row of pixels is written
pub row_more : (f : ℕ → ℕ → List ℕ) (n y k : ℕ) (s t : List ℕ) → y * (4 * n) + 4 * n ≤ length s → length t ≡ 4 * n
    → ((x' y' : ℕ) → x' < n → y' < y → pixel_at s (y' * n + x') ≡ f x' y')
    → ((x' : ℕ) → x' < n → pixel_at t x' ≡ f x' y)
    → (x' y' : ℕ) → x' < n → y' < y + 1 → pixel_at (put_mid (y * (4 * n)) k s t) (y' * n + x') ≡ f x' y'
row_more f n y k s t within long above here x' y' lt lower = elim (cases_lt y' y) [
  | inl less ↦
      let up : y' * n + n ≤ y * n = omega (arith, mul-le (y' + 1) n y n (omega arith) (omega arith)) in
      pixel_before (y * (4 * n)) k (y' * n + x') s t (omega (arith, up, lt)) (omega (arith, within)) ∙ above x' y' lt less
  | inr le ↦
      let same : y' ≡ y = omega (arith, le, lower) in
      ap (λ v. pixel_at (put_mid (y * (4 * n)) k s t) (v * n + x')) same ∙ (pixel_inside (y * (4 * n)) k (y * n + x') x' s t (omega arith) (omega (arith, within)) (omega (arith, long, lt)) ∙ (here x' lt ∙ ap (f x') (sym same)))
]

-- a list of four bytes is a pixel
pub four_bytes : (t : List ℕ) (a b c d : ℕ) → t ≡ (a ∷ b ∷ c ∷ d ∷ []) → pixel_at t 0 ≡ (a ∷ b ∷ c ∷ d ∷ [])
four_bytes t a b c d is = ap (λ l. pixel_at l 0) is

-- ---- a list by its pixels

byte_of : (s t : List ℕ) (n i : ℕ) → i < 4 → pixel_at s n ≡ pixel_at t n → get_or s (4 * n + i) 0 ≡ get_or t (4 * n + i) 0
byte_of s t n zero few e = ap (λ j. get_or s j 0) (at_start n) ∙ (ap (λ l. get_or l 0 0) e ∙ ap (λ j. get_or t j 0) (sym (at_start n)))
byte_of s t n (suc zero) few e = ap (λ l. get_or l 1 0) e
byte_of s t n (suc (suc zero)) few e = ap (λ l. get_or l 2 0) e
byte_of s t n (suc (suc (suc zero))) few e = ap (λ l. get_or l 3 0) e
byte_of s t n (suc (suc (suc (suc i)))) few e = absurd (omega arith)

some_width : (w h n : ℕ) → n < w * h → 0 < w
some_width zero h n lt = absurd (omega arith)
some_width (suc w) h n lt = omega arith

by_pixels : (w h : ℕ) (s t : List ℕ) → length s ≡ 4 * (w * h) → length t ≡ 4 * (w * h) → ((x y : ℕ) → x < w → y < h → pixel_at s (y * w + x) ≡ pixel_at t (y * w + x)) → s ≡ t
by_pixels w h s t long_s long_t same =
    ext_get_or 0 s t (omega (arith, long_s, long_t))
    (λ k within.
    let n = k / 4 in
    let few : k % 4 < 4 = omega arith in
    let place : 4 * n + k % 4 ≡ k = omega arith in
    let here : n < w * h = omega (arith, within, long_s) in
    let some : 0 < w = some_width w h n here in
    let pixel : pixel_at s n ≡ pixel_at t n =
    ap (pixel_at s) (sym (div-add-mod' n w)) ∙ (same (n % w) (n / w) (mod_below n w some) (div_below n w h some (omega (arith, here))) ∙ ap (pixel_at t) (div-add-mod' n w)) in
    ap (λ i. get_or s i 0) (sym place) ∙ (byte_of s t n (k % 4) few pixel ∙ ap (λ i. get_or t i 0) place))

pub pixels_are_all : PixelsAreAll
pixels_are_all picture matrix format one other first second =
    by_pixels picture.y.width picture.y.height one other first.count second.count (λ x y inside row. first.pixels x y inside row ∙ sym (second.pixels x y inside row))
