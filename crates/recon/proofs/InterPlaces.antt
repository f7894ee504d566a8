-- Where the samples of a partition lie, in the macroblock and in the reference picture.
use Rattle.std.proofs.Common.{◌≡◌, ℕ, ◌+◌, ◌-◌, ◌*◌, ◌/◌, ◌<◌, ◌≤◌, cond, List, get_or, ap, ◌∙◌, arith}
use Rattle.std.specs.Prelude.{ℤ, pos, ◌+ℤ◌}
use Rattle.std.proofs.lemmas.Bool.Decides.{nat_tests}
use Rattle.std.proofs.lemmas.Int.{ints}
use Rattle.cb_types.specs.declared.header.Weight.{Weight}
use Rattle.cb_types.specs.declared.macroblock.Vector.{Vector}
use Rattle.inter_pred.specs.Chroma.{chroma_at}
use Rattle.inter_pred.specs.Luma.{luma_at}
use Rattle.std.specs.Prelude.{Option}
use Rattle.vd_plane.specs.SampleArray.{SampleArray, covers, number_in, rect_at}
use Rattle.recon.specs.Inter.{chroma_shown, luma_shown, under}

luma_covers : (c r w h x y u v n : ℕ) → (c ≤ x / 4 → x / 4 < c + w → r ≤ y / 4 → y / 4 < r + h → u ≡ n) → cond (covers (rect_at (4 * c) (4 * r) (4 * w) (4 * h)) x y) u v ≡ cond (covers (rect_at c r w h) (x / 4) (y / 4)) n v
luma_covers c r w h x y u v n here = grind (arith, nat_tests)

chroma_covers : (c r w h x y u v n : ℕ) → (c ≤ x / 2 → x / 2 < c + w → r ≤ y / 2 → y / 2 < r + h → u ≡ n) → cond (covers (rect_at (2 * c) (2 * r) (2 * w) (2 * h)) x y) u v ≡ cond (covers (rect_at c r w h) (x / 2) (y / 2)) n v
chroma_covers c r w h x y u v n here = grind (arith, nat_tests)

luma_place : (m c x : ℕ) (v z : ℤ) → 4 * c ≤ x → z ≡ pos (64 * m + 16 * c) +ℤ v → z +ℤ pos (4 * (x - 4 * c)) ≡ pos (4 * (16 * m + x)) +ℤ v
luma_place m c x v z le e = omega (arith, ints)

chroma_place : (m c x : ℕ) (v z : ℤ) → 2 * c ≤ x → z ≡ pos (64 * m + 16 * c) +ℤ v → z +ℤ pos (8 * (x - 2 * c)) ≡ pos (8 * (8 * m + x)) +ℤ v
chroma_place m c x v z le e = omega (arith, ints)

-- the samples of a partition, filled into a part of a list and laid down from there
pub luma_laid : (plane : SampleArray) (denom : ℕ) (weight : Option Weight) (vector : Vector) (column row c r w h : ℕ) (sx sy : ℤ) (from : List ℕ) (old x y : ℕ)
    → sx ≡ pos (64 * column + 16 * c) +ℤ vector.x → sy ≡ pos (64 * row + 16 * r) +ℤ vector.y
    → ((i j : ℕ) → i < 4 * w → j < 4 * h → get_or from (j * (4 * w) + i) 0 ≡ under denom weight (luma_at plane (sx +ℤ pos (4 * i)) (sy +ℤ pos (4 * j))))
    → cond (covers (rect_at (4 * c) (4 * r) (4 * w) (4 * h)) x y) (get_or from (number_in (rect_at (4 * c) (4 * r) (4 * w) (4 * h)) x y) 0) old
    ≡ cond (covers (rect_at c r w h) (x / 4) (y / 4)) (under denom weight (luma_shown plane vector column row x y)) old
luma_laid plane denom weight vector column row c r w h sx sy from old x y is_x is_y filled =
    luma_covers c r w h x y _ old _
    (λ a b d e.
    let across : sx +ℤ pos (4 * (x - 4 * c)) ≡ pos (4 * (16 * column + x)) +ℤ vector.x = luma_place column c x vector.x sx (omega arith) is_x in
    let down : sy +ℤ pos (4 * (y - 4 * r)) ≡ pos (4 * (16 * row + y)) +ℤ vector.y = luma_place row r y vector.y sy (omega arith) is_y in
    filled (x - 4 * c) (y - 4 * r) (omega arith) (omega arith)
    ∙ (ap (λ z. under denom weight (luma_at plane z (sy +ℤ pos (4 * (y - 4 * r))))) across ∙ ap (λ z. under denom weight (luma_at plane (pos (4 * (16 * column + x)) +ℤ vector.x) z)) down))

pub chroma_laid : (plane : SampleArray) (denom : ℕ) (weight : Option Weight) (vector : Vector) (column row c r w h : ℕ) (sx sy : ℤ) (from : List ℕ) (old x y : ℕ)
    → sx ≡ pos (64 * column + 16 * c) +ℤ vector.x → sy ≡ pos (64 * row + 16 * r) +ℤ vector.y
    → ((i j : ℕ) → i < 2 * w → j < 2 * h → get_or from (j * (2 * w) + i) 0 ≡ under denom weight (chroma_at plane (sx +ℤ pos (8 * i)) (sy +ℤ pos (8 * j))))
    → cond (covers (rect_at (2 * c) (2 * r) (2 * w) (2 * h)) x y) (get_or from (number_in (rect_at (2 * c) (2 * r) (2 * w) (2 * h)) x y) 0) old
    ≡ cond (covers (rect_at c r w h) (x / 2) (y / 2)) (under denom weight (chroma_shown plane vector column row x y)) old
chroma_laid plane denom weight vector column row c r w h sx sy from old x y is_x is_y filled =
    chroma_covers c r w h x y _ old _
    (λ a b d e.
    let across : sx +ℤ pos (8 * (x - 2 * c)) ≡ pos (8 * (8 * column + x)) +ℤ vector.x = chroma_place column c x vector.x sx (omega arith) is_x in
    let down : sy +ℤ pos (8 * (y - 2 * r)) ≡ pos (8 * (8 * row + y)) +ℤ vector.y = chroma_place row r y vector.y sy (omega arith) is_y in
    filled (x - 2 * c) (y - 2 * r) (omega arith) (omega arith)
    ∙ (ap (λ z. under denom weight (chroma_at plane z (sy +ℤ pos (8 * (y - 2 * r))))) across ∙ ap (λ z. under denom weight (chroma_at plane (pos (8 * (8 * column + x)) +ℤ vector.x) z)) down))
