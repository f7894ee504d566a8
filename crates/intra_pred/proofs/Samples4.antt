-- The samples of each mode of 4x4 luma blocks.
use Rattle.std.proofs.Common.{◌≡◌, ℕ, ◌<◌, List, Option, Some, replicate, slice_index, refl, ◌∙◌}
use Rattle.intra_pred.specs.Luma4.{diagonal_down_left, diagonal_down_right, horizontal_down, horizontal_up, sample4, vertical_left, vertical_right}
use Rattle.intra_pred.specs.Means.{side_mean}
use Rattle.intra_pred.specs.Sides.{block4, edge, eight, sample_in}
use Rattle.intra_pred.proofs.Blocks4.{sample_of}

-- the block's samples are those that the definition gives
abbrev pub IsPredicted4 : ℕ → Option (List ℕ) → Option (List ℕ) → Option (List ℕ) → Option ℕ → List ℕ → Type 0
IsPredicted4 mode left top right corner block = (x y : ℕ) → x < 4 → y < 4 → sample_in 4 block x y ≡ sample4 mode left top right corner x y

pub vertical : (mode : ℕ) (left top right : Option (List ℕ)) (corner : Option ℕ) (t : List ℕ) (block : List ℕ) → mode ≡ 0 → top ≡ Some t → block ≡ block4 (λ x y. slice_index t x) → IsPredicted4 mode left top right corner block
unfolding sample4
vertical mode left top right corner t block em et eb x y hx hy = sample_of block (λ x y. slice_index t x) eb x y hx hy ∙ rw (em, et)

pub horizontal : (mode : ℕ) (left top right : Option (List ℕ)) (corner : Option ℕ) (l : List ℕ) (block : List ℕ) → mode ≡ 1 → left ≡ Some l → block ≡ block4 (λ x y. slice_index l y) → IsPredicted4 mode left top right corner block
unfolding sample4
horizontal mode left top right corner l block em el eb x y hx hy = sample_of block (λ x y. slice_index l y) eb x y hx hy ∙ rw (em, el)

pub down_left : (mode : ℕ) (left top right : Option (List ℕ)) (corner : Option ℕ) (t : List ℕ) (block : List ℕ) → mode ≡ 3 → top ≡ Some t → block ≡ block4 (diagonal_down_left (eight t right)) → IsPredicted4 mode left top right corner block
unfolding sample4
down_left mode left top right corner t block em et eb x y hx hy = sample_of block (diagonal_down_left (eight t right)) eb x y hx hy ∙ rw (em, et)

pub down_right : (mode : ℕ) (left top right : Option (List ℕ)) (corner : Option ℕ) (l : List ℕ) (t : List ℕ) (k : ℕ) (block : List ℕ) → mode ≡ 4 → left ≡ Some l → top ≡ Some t → corner ≡ Some k → block ≡ block4 (diagonal_down_right (edge t k) (edge l k)) → IsPredicted4 mode left top right corner block
unfolding sample4
down_right mode left top right corner l t k block em el et ek eb x y hx hy = sample_of block (diagonal_down_right (edge t k) (edge l k)) eb x y hx hy ∙ rw (em, el, et, ek)

pub right_of_vertical : (mode : ℕ) (left top right : Option (List ℕ)) (corner : Option ℕ) (l : List ℕ) (t : List ℕ) (k : ℕ) (block : List ℕ) → mode ≡ 5 → left ≡ Some l → top ≡ Some t → corner ≡ Some k → block ≡ block4 (vertical_right (edge t k) (edge l k)) → IsPredicted4 mode left top right corner block
unfolding sample4
right_of_vertical mode left top right corner l t k block em el et ek eb x y hx hy = sample_of block (vertical_right (edge t k) (edge l k)) eb x y hx hy ∙ rw (em, el, et, ek)

pub down_of_horizontal : (mode : ℕ) (left top right : Option (List ℕ)) (corner : Option ℕ) (l : List ℕ) (t : List ℕ) (k : ℕ) (block : List ℕ) → mode ≡ 6 → left ≡ Some l → top ≡ Some t → corner ≡ Some k → block ≡ block4 (horizontal_down (edge t k) (edge l k)) → IsPredicted4 mode left top right corner block
unfolding sample4
down_of_horizontal mode left top right corner l t k block em el et ek eb x y hx hy = sample_of block (horizontal_down (edge t k) (edge l k)) eb x y hx hy ∙ rw (em, el, et, ek)

pub left_of_vertical : (mode : ℕ) (left top right : Option (List ℕ)) (corner : Option ℕ) (t : List ℕ) (block : List ℕ) → mode ≡ 7 → top ≡ Some t → block ≡ block4 (vertical_left (eight t right)) → IsPredicted4 mode left top right corner block
unfolding sample4
left_of_vertical mode left top right corner t block em et eb x y hx hy = sample_of block (vertical_left (eight t right)) eb x y hx hy ∙ rw (em, et)

pub up_of_horizontal : (mode : ℕ) (left top right : Option (List ℕ)) (corner : Option ℕ) (l : List ℕ) (block : List ℕ) → mode ≡ 8 → left ≡ Some l → block ≡ block4 (horizontal_up l) → IsPredicted4 mode left top right corner block
unfolding sample4
up_of_horizontal mode left top right corner l block em el eb x y hx hy = sample_of block (horizontal_up l) eb x y hx hy ∙ rw (em, el)

pub mean : (mode : ℕ) (left top right : Option (List ℕ)) (corner : Option ℕ) (m : ℕ) → mode ≡ 2 → m ≡ side_mean 4 left top → IsPredicted4 mode left top right corner (replicate 16 m)
unfolding sample4
mean mode left top right corner m em e x y hx hy = sample_of (replicate 16 m) (λ x y. m) refl x y hx hy ∙ (e ∙ rw em)
