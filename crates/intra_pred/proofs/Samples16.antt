-- The samples of each mode of 16x16 blocks.
use Rattle.std.proofs.Common.{◌≡◌, ℕ, ◌<◌, List, Option, Some, get_or, ◌∙◌}
use Rattle.intra_pred.specs.Luma16.{sample16}
use Rattle.intra_pred.specs.Means.{side_mean}
use Rattle.intra_pred.specs.Plane.{plane_at}
use Rattle.intra_pred.specs.Sides.{sample_in}

-- the block's samples are those that a formula gives
abbrev pub IsFilled : List ℕ → (ℕ → ℕ → ℕ) → Type 0
IsFilled block f = (x y : ℕ) → x < 16 → y < 16 → sample_in 16 block x y ≡ f x y

pub vertical : (mode : ℕ) (left top : Option (List ℕ)) (corner : Option ℕ) (t : List ℕ) (block : List ℕ) → mode ≡ 0 → top ≡ Some t → IsFilled block (λ x y. get_or t x 0) → IsFilled block (sample16 mode left top corner)
unfolding sample16
vertical mode left top corner t block em et filled x y hx hy = filled x y hx hy ∙ rw (em, et)

pub horizontal : (mode : ℕ) (left top : Option (List ℕ)) (corner : Option ℕ) (l : List ℕ) (block : List ℕ) → mode ≡ 1 → left ≡ Some l → IsFilled block (λ x y. get_or l y 0) → IsFilled block (sample16 mode left top corner)
unfolding sample16
horizontal mode left top corner l block em el filled x y hx hy = filled x y hx hy ∙ rw (em, el)

pub mean : (mode : ℕ) (left top : Option (List ℕ)) (corner : Option ℕ) (block : List ℕ) → mode ≡ 2 → IsFilled block (λ x y. side_mean 16 left top) → IsFilled block (sample16 mode left top corner)
unfolding sample16
mean mode left top corner block em filled x y hx hy = filled x y hx hy ∙ rw (em)

pub plane : (mode : ℕ) (left top : Option (List ℕ)) (corner : Option ℕ) (l : List ℕ) (t : List ℕ) (k : ℕ) (block : List ℕ) → mode ≡ 3 → left ≡ Some l → top ≡ Some t → corner ≡ Some k → IsFilled block (plane_at 8 5 l t k) → IsFilled block (sample16 mode left top corner)
unfolding sample16
plane mode left top corner l t k block em el et ek filled x y hx hy = filled x y hx hy ∙ rw (em, el, et, ek)
