-- Lists that have a given value at each of their places.
use Rattle.std.proofs.Common.{◌≡◌, ℕ, ◌+◌, ◌*◌, ◌/◌, ◌%◌, ◌<◌, List, length, get_or, map, ap, ◌∙◌, arith}
use Rattle.std.specs.List.{range_with_len}
use Rattle.std.proofs.lemmas.Nat.{div-mul-add, mod-mul-add, mul-add-lt}
use Rattle.std.proofs.lemmas.List.FromFn.{get_or-map-range_with_len, length-map-range_with_len}
use Rattle.vd_plane.specs.Tiles.{sample_in_rows}

-- so many values, one for each number
pub values : {A : Type 0} → (ℕ → A) → ℕ → List A
values f count = map f (range_with_len 0 count)

pub length-values : {A : Type 0} (f : ℕ → A) (count : ℕ) → length (values f count) ≡ count
unfolding values
length-values f count = length-map-range_with_len f 0 count

pub values_at : {A : Type 0} (f : ℕ → A) (count number : ℕ) (d : A) → number < count → get_or (values f count) number d ≡ f number
unfolding values
values_at f count number d lt = get_or-map-range_with_len f 0 count number number d lt (omega arith)

-- a value for each column of each row, by rows
pub table : (ℕ → ℕ → ℕ) → ℕ → ℕ → List ℕ
table f width height = values (λ n. f (n % width) (n / width)) (width * height)

pub length-table : (f : ℕ → ℕ → ℕ) (width height : ℕ) → length (table f width height) ≡ width * height
unfolding table
length-table f width height = length-values (λ n. f (n % width) (n / width)) (width * height)

pub table_at : (f : ℕ → ℕ → ℕ) (width height x y : ℕ) → x < width → y < height → get_or (table f width height) (y * width + x) 0 ≡ f x y
unfolding table
table_at f width height x y across down =
    values_at (λ n. f (n % width) (n / width)) (width * height) (y * width + x) 0 (mul-add-lt y width x height down across)
    ∙ (ap (λ column. f column ((y * width + x) / width)) (mod-mul-add y width x across) ∙ ap (f x) (div-mul-add y width x across))

pub table_in_rows : (f : ℕ → ℕ → ℕ) (width height x y : ℕ) → x < width → y < height → sample_in_rows width (table f width height) x y ≡ f x y
table_in_rows f width height x y across down =
    let place : width * y + x ≡ y * width + x = omega arith in
    ap (λ n. get_or (table f width height) n 0) place ∙ table_at f width height x y across down
