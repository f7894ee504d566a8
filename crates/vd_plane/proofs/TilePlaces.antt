-- Where the samples of macroblocks lie in a plane.
use Rattle.std.proofs.Common.{◌≡◌, ℕ, ◌+◌, ◌-◌, ◌*◌, ◌<◌, ◌≤◌, ◌/◌, ◌%◌, inl, inr, Bool, true, false, cond, leb, ltb, ◌&&◌, sym, ap, ◌∙◌, arith}
use Rattle.std.proofs.lemmas.Nat.{same_from_place, div-add-mod', mod_below, div_below}
use Rattle.std.proofs.lemmas.Bool.{cases_eq}
use Rattle.std.proofs.lemmas.Bool.Decides.{nat_tests}
use Rattle.vd_plane.specs.SampleArray.{covers, rect_at}
use Rattle.vd_plane.specs.Tiles.{macroblock_at}

-- a macroblock's row is one of the picture's
pub row_inside : (m width rows : ℕ) → 1 ≤ width → m < rows * width → m / width < rows
row_inside m width rows some lt = div_below m width rows some lt

covers_yes : (left top side x y u v w : ℕ) → left ≤ x → x < left + side → top ≤ y → y < top + side → u ≡ w → cond (covers (rect_at left top side side) x y) u v ≡ w
covers_yes left top side x y u v w a b c d e = grind (arith, nat_tests)

covers_no : (left top side x y u v : ℕ) → (left ≤ x → x < left + side → top ≤ y → y < top + side → ⊥) → cond (covers (rect_at left top side side) x y) u v ≡ v
covers_no left top side x y u v apart = grind (arith, nat_tests)

-- the macroblock in a column and a row
of_place : (m width column row : ℕ) → 1 ≤ width → column < width → row * width + column ≡ m → (row ≡ m / width) × (column ≡ m % width)
of_place m width column row some lt e = same_from_place row column (m / width) (m % width) width lt (mod_below m width some) (e ∙ sym (div-add-mod' m width))

at_place : (m width column row : ℕ) → column ≡ m % width → row ≡ m / width → row * width + column ≡ m
at_place m width column row e f = ap (λ c. row * width + c) e ∙ (ap (λ r. r * width + m % width) f ∙ div-add-mod' m width)

-- the samples after one more tile of 16 by 16 was laid down
pub luma_more : (m width x y u v w : ℕ) → 1 ≤ width → x < 16 * width
    → (macroblock_at 16 width x y ≡ m → u ≡ w)
    → (macroblock_at 16 width x y < m → v ≡ w)
    → macroblock_at 16 width x y < m + 1 → cond (covers (rect_at (16 * (m % width)) (16 * (m / width)) 16 16) x y) u v ≡ w
luma_more m width x y u v w some inside here before lt = elim (cases_eq (macroblock_at 16 width x y) m) [
  | inl same ↦
      let at : (y / 16 ≡ m / width) × (x / 16 ≡ m % width) = of_place m width (x / 16) (y / 16) some (omega arith) same in
      let column : x / 16 ≡ m % width = at.1 in
      let row : y / 16 ≡ m / width = at.0 in
      covers_yes (16 * (m % width)) (16 * (m / width)) 16 x y u v w (omega arith) (omega arith) (omega arith) (omega arith) (here same)
  | inr ne ↦
      covers_no (16 * (m % width)) (16 * (m / width)) 16 x y u v (λ a b c d. ne (at_place m width (x / 16) (y / 16) (omega arith) (omega arith))) ∙ before (omega arith)
]

-- and of 8 by 8
pub chroma_more : (m width x y u v w : ℕ) → 1 ≤ width → x < 8 * width
    → (macroblock_at 8 width x y ≡ m → u ≡ w)
    → (macroblock_at 8 width x y < m → v ≡ w)
    → macroblock_at 8 width x y < m + 1 → cond (covers (rect_at (8 * (m % width)) (8 * (m / width)) 8 8) x y) u v ≡ w
chroma_more m width x y u v w some inside here before lt = elim (cases_eq (macroblock_at 8 width x y) m) [
  | inl same ↦
      let at : (y / 8 ≡ m / width) × (x / 8 ≡ m % width) = of_place m width (x / 8) (y / 8) some (omega arith) same in
      let column : x / 8 ≡ m % width = at.1 in
      let row : y / 8 ≡ m / width = at.0 in
      covers_yes (8 * (m % width)) (8 * (m / width)) 8 x y u v w (omega arith) (omega arith) (omega arith) (omega arith) (here same)
  | inr ne ↦
      covers_no (8 * (m % width)) (8 * (m / width)) 8 x y u v (λ a b c d. ne (at_place m width (x / 8) (y / 8) (omega arith) (omega arith))) ∙ before (omega arith)
]

-- a place in a tile, from its place in the plane
pub in_luma_tile : (m width x y : ℕ) → 1 ≤ width → x < 16 * width → macroblock_at 16 width x y ≡ m → (y - 16 * (m / width)) * 16 + (x - 16 * (m % width)) ≡ 16 * (y % 16) + x % 16
in_luma_tile m width x y some inside same =
    let at : (y / 16 ≡ m / width) × (x / 16 ≡ m % width) = of_place m width (x / 16) (y / 16) some (omega arith) same in
    let column : x / 16 ≡ m % width = at.1 in
    let row : y / 16 ≡ m / width = at.0 in
    omega arith

pub in_chroma_tile : (m width x y : ℕ) → 1 ≤ width → x < 8 * width → macroblock_at 8 width x y ≡ m → (y - 8 * (m / width)) * 8 + (x - 8 * (m % width)) ≡ 8 * (y % 8) + x % 8
in_chroma_tile m width x y some inside same =
    let at : (y / 8 ≡ m / width) × (x / 8 ≡ m % width) = of_place m width (x / 8) (y / 8) some (omega arith) same in
    let column : x / 8 ≡ m % width = at.1 in
    let row : y / 8 ≡ m / width = at.0 in
    omega arith
