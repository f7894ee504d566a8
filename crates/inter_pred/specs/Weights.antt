-- Explicit weighted prediction from one reference (H.264, 8.4.2.3).
use Rattle.std.specs.Prelude.{ℕ, suc, zero, ◌^◌, ℤ, pos, ◌+ℤ◌, ◌*ℤ◌}
use Rattle.std.specs.Int.{int_shr}
use Rattle.inter_pred.specs.Places.{clip}

-- a number over 2 to the power of denom, rounded; where denom is 0 it stays
unfoldable pub scaled : ℕ → ℤ → ℤ
scaled zero z = z
scaled (suc n) z = int_shr (z +ℤ pos (2 ^ n)) (suc n)

-- a sample under a weight, of which 2 to the power of denom is the whole, and an offset
unfoldable pub weighted : ℕ → ℤ → ℤ → ℕ → ℕ
weighted denom weight offset p = clip (scaled denom (pos p *ℤ weight) +ℤ offset)
