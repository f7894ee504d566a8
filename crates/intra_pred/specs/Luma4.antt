-- The samples of a predicted 4x4 luma block, each by the formula of its mode (H.264, 8.3.1.2).
use Rattle.std.specs.Prelude.{ℕ, ◌+◌, ◌*◌, ◌/◌, ◌%◌, ◌==◌, ◌&&◌, nat_lt, if◌then◌else◌, ℤ, pos, negsuc, ◌-ℤ◌, List, Option, slice_index}
use Rattle.std.specs.Option.{unwrap_or}
use Rattle.intra_pred.specs.Means.{mean2, mean3, side_mean}
use Rattle.intra_pred.specs.Sides.{edge, eight, given}

-- mode 3, from the eight samples above
abbrev pub diagonal_down_left : List ℕ → ℕ → ℕ → ℕ
diagonal_down_left above x y =
    let t = slice_index above in
    if x == 3 && y == 3 then mean3 (t 6) (t 7) (t 7) else mean3 (t (x + y)) (t (x + y + 1)) (t (x + y + 2))

-- mode 4, from the samples above and left by their places, with the corner at -1
abbrev pub diagonal_down_right : (ℤ → ℕ) → (ℤ → ℕ) → ℕ → ℕ → ℕ
diagonal_down_right t l x y =
    let i = pos x -ℤ pos y in
    let j = pos y -ℤ pos x in
    if nat_lt y x then mean3 (t (i -ℤ pos 2)) (t (i -ℤ pos 1)) (t i) else if nat_lt x y then mean3 (l (j -ℤ pos 2)) (l (j -ℤ pos 1)) (l j) else mean3 (t (pos 0)) (t (negsuc 0)) (l (pos 0))

-- mode 5
abbrev pub vertical_right : (ℤ → ℕ) → (ℤ → ℕ) → ℕ → ℕ → ℕ
vertical_right t l x y =
    let i = pos x -ℤ pos (y / 2) in
    if nat_lt (2 * x + 1) y then mean3 (l (pos y -ℤ pos 1)) (l (pos y -ℤ pos 2)) (l (pos y -ℤ pos 3)) else if 2 * x + 1 == y then mean3 (l (pos 0)) (l (negsuc 0)) (t (pos 0)) else if y % 2 == 0 then mean2 (t (i -ℤ pos 1)) (t i) else mean3 (t (i -ℤ pos 2)) (t (i -ℤ pos 1)) (t i)

-- mode 6, which is mode 5 with rows and columns exchanged
abbrev pub horizontal_down : (ℤ → ℕ) → (ℤ → ℕ) → ℕ → ℕ → ℕ
horizontal_down t l x y = vertical_right l t y x

-- mode 7, from the eight samples above
abbrev pub vertical_left : List ℕ → ℕ → ℕ → ℕ
vertical_left above x y =
    let t = slice_index above in
    let i = x + y / 2 in
    if y % 2 == 0 then mean2 (t i) (t (i + 1)) else mean3 (t i) (t (i + 1)) (t (i + 2))

-- mode 8, from the four samples left
abbrev pub horizontal_up : List ℕ → ℕ → ℕ → ℕ
horizontal_up left x y =
    let l = slice_index left in
    let z = x + 2 * y in
    let i = y + x / 2 in
    if nat_lt 5 z then l 3 else if z == 5 then mean3 (l 2) (l 3) (l 3) else if z % 2 == 0 then mean2 (l i) (l (i + 1)) else mean3 (l i) (l (i + 1)) (l (i + 2))

-- the predicted sample in a column of a row. Of a missing side no sample is used
unfoldable pub sample4 : ℕ → Option (List ℕ) → Option (List ℕ) → Option (List ℕ) → Option ℕ → ℕ → ℕ → ℕ
sample4 mode left top right corner x y =
    let above = eight (given top) right in
    let t = edge (given top) (unwrap_or corner 0) in
    let l = edge (given left) (unwrap_or corner 0) in
    if mode == 0 then t (pos x)
    else if mode == 1 then l (pos y)
    else if mode == 2 then side_mean 4 left top
    else if mode == 3 then diagonal_down_left above x y
    else if mode == 4 then diagonal_down_right t l x y
    else if mode == 5 then vertical_right t l x y
    else if mode == 6 then horizontal_down t l x y
    else if mode == 7 then vertical_left above x y
    else horizontal_up (given left) x y
