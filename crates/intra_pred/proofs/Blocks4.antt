-- The places of a 4x4 block, one by one.
use Rattle.std.proofs.Common.{◌≡◌, ℕ, zero, suc, ◌<◌, List, refl, ap, ◌∙◌, arith}
use Rattle.intra_pred.specs.Sides.{block4, sample_in}

-- what holds in each of four columns holds in every column
pub by_four : (P : ℕ → Type 0) → P 0 → P 1 → P 2 → P 3 → (k : ℕ) → k < 4 → P k
by_four P p0 p1 p2 p3 zero h = p0
by_four P p0 p1 p2 p3 (suc zero) h = p1
by_four P p0 p1 p2 p3 (suc (suc zero)) h = p2
by_four P p0 p1 p2 p3 (suc (suc (suc zero))) h = p3
by_four P p0 p1 p2 p3 (suc (suc (suc (suc k)))) h = absurd (omega arith)

block4_at : (f : ℕ → ℕ → ℕ) (x y : ℕ) → x < 4 → y < 4 → sample_in 4 (block4 f) x y ≡ f x y
block4_at f x y hx hy =
    let P : ℕ → ℕ → Type 0 = λ y x. sample_in 4 (block4 f) x y ≡ f x y in
    by_four (λ y. (x : ℕ) → x < 4 → P y x)
    (by_four (P 0) refl refl refl refl)
    (by_four (P 1) refl refl refl refl)
    (by_four (P 2) refl refl refl refl)
    (by_four (P 3) refl refl refl refl)
    y hy x hx

-- the sample at a place of a block whose samples a formula gives
pub sample_of : (block : List ℕ) (f : ℕ → ℕ → ℕ) → block ≡ block4 f → (x y : ℕ) → x < 4 → y < 4 → sample_in 4 block x y ≡ f x y
sample_of block f e x y hx hy = ap (λ (b : List ℕ). sample_in 4 b x y) e ∙ block4_at f x y hx hy
