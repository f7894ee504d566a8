-- Plane prediction of a square block (H.264, 8.3.3.4 and 8.3.4.4).
use Rattle.std.specs.Prelude.{ℕ, zero, suc, ◌+◌, ◌-◌, ◌*◌, ◌^◌, ℤ, pos, neg_ℤ, ◌≤ℤ◌, ◌+ℤ◌, ◌-ℤ◌, ◌*ℤ◌, List, slice_index}
use Rattle.std.specs.Int.{int_shr}
use Rattle.intra_pred.specs.Means.{clipped}
use Rattle.intra_pred.specs.Sides.{edge}

-- f( 1 ) + .. + f( n )
abbrev pub sum_to : ℕ → (ℕ → ℤ) → ℤ
sum_to zero f = pos 0
sum_to (suc n) f = sum_to n f +ℤ f (suc n)

-- k times the difference of the samples that are k from the middle of a side of 2 * half samples
abbrev pub weighted_at : ℕ → List ℕ → ℕ → ℕ → ℤ
weighted_at half side corner k =
    let p = edge side corner in
    pos k *ℤ (pos (p (pos (half + k - 1))) -ℤ pos (p (pos half -ℤ pos (k + 1))))

-- H and V: how steep a side is
abbrev pub steepness : ℕ → List ℕ → ℕ → ℤ
steepness half side corner = sum_to half (weighted_at half side corner)

-- b and c: the step from a sample to the next
abbrev pub step : ℕ → ℕ → List ℕ → ℕ → ℤ
step half factor side corner = int_shr (pos factor *ℤ steepness half side corner +ℤ pos 32) 6

-- how large a step may be
pub record IsStep (z : ℤ) : Type 0 where
  pub least : neg_ℤ (pos (2 ^ 14)) ≤ℤ z
  pub most : z ≤ℤ pos (2 ^ 14)

-- 32 times the sample in a column of a row, before it is rounded and clipped
abbrev pub value_at : ℕ → ℤ → ℤ → ℤ → ℕ → ℕ → ℤ
value_at half a b c x y = a +ℤ b *ℤ (pos x -ℤ pos (half - 1)) +ℤ c *ℤ (pos y -ℤ pos (half - 1)) +ℤ pos 16

-- the sample in a column of a row. Half the block's side and the factor are 8 and 5 for luma, 4 and 34 for chroma
unfoldable pub plane_at : ℕ → ℕ → List ℕ → List ℕ → ℕ → ℕ → ℕ → ℕ
plane_at half factor left top corner x y =
    let a = pos (16 * (slice_index left (2 * half - 1) + slice_index top (2 * half - 1))) in
    clipped (int_shr (value_at half a (step half factor top corner) (step half factor left corner) x y) 5)
