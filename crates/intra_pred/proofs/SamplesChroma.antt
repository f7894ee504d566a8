-- The samples of each mode of 8x8 blocks.
use Rattle.std.proofs.Common.{◌≡◌, ℕ, ◌/◌, ◌<◌, List, Option, Some, get_or, ◌∙◌}
use Rattle.intra_pred.specs.Chroma.{sample_chroma, block_mean}
use Rattle.intra_pred.specs.Plane.{plane_at}
use Rattle.intra_pred.specs.Sides.{sample_in}

-- the block's samples are those that a formula gives
abbrev pub IsFilled : List ℕ → (ℕ → ℕ → ℕ) → Type 0
IsFilled block f = (x y : ℕ) → x < 8 → y < 8 → sample_in 8 block x y ≡ f x y

pub dc : (mode : ℕ) (left top : Option (List ℕ)) (corner : Option ℕ) (block : List ℕ) → mode ≡ 0 → IsFilled block (λ x y. block_mean left top (x / 4) (y / 4)) → IsFilled block (sample_chroma mode left top corner)
unfolding sample_chroma
dc mode left top corner block em filled x y hx hy = filled x y hx hy ∙ rw (em)

pub horizontal : (mode : ℕ) (left top : Option (List ℕ)) (corner : Option ℕ) (l : List ℕ) (block : List ℕ) → mode ≡ 1 → left ≡ Some l → IsFilled block (λ x y. get_or l y 0) → IsFilled block (sample_chroma mode left top corner)
unfolding sample_chroma
horizontal mode left top corner l block em el filled x y hx hy = filled x y hx hy ∙ rw (em, el)

pub vertical : (mode : ℕ) (left top : Option (List ℕ)) (corner : Option ℕ) (t : List ℕ) (block : List ℕ) → mode ≡ 2 → top ≡ Some t → IsFilled block (λ x y. get_or t x 0) → IsFilled block (sample_chroma mode left top corner)
unfolding sample_chroma
vertical mode left top corner t block em et filled x y hx hy = filled x y hx hy ∙ rw (em, et)

pub plane : (mode : ℕ) (left top : Option (List ℕ)) (corner : Option ℕ) (l : List ℕ) (t : List ℕ) (k : ℕ) (block : List ℕ) → mode ≡ 3 → left ≡ Some l → top ≡ Some t → corner ≡ Some k → IsFilled block (plane_at 4 34 l t k) → IsFilled block (sample_chroma mode left top corner)
unfolding sample_chroma
plane mode left top corner l t k block em el et ek filled x y hx hy = filled x y hx hy ∙ rw (em, el, et, ek)
