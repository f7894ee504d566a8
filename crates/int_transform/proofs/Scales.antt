-- What levels are multiplied by, and the products.
use Rattle.std.proofs.Common.{◌≡◌, ℕ, ◌*◌, ◌%◌, ◌^◌, ◌<◌, ◌≤◌, Bool, nat_le, ℤ, pos, negsuc, ◌*ℤ◌, FitsSigned, to_z, w32, unsigned_abs, lit<, lit≤, refl, arith}
use Rattle.std.proofs.Math.Nat.{pow-le-pow_right}
use Rattle.std.proofs.lemmas.Int.{ints, unsigned_abs-mul}
use Rattle.std.proofs.lemmas.Nat.{mul-le}
use Rattle.std.proofs.lemmas.Bool.{leb-true}
use Rattle.cb_tables.specs.LevelScale.{level_scale_at, scale_rows}
use Rattle.int_transform.specs.Bounds.{IsWithin}
use Rattle.int_transform.specs.Residual.{scale_at}
use Rattle.int_transform.proofs.Computed.{all_below, each_below}
use Rattle.int_transform.proofs.Whole.{kept, kept_within}

level_test : ℕ → ℕ → Bool
level_test rem place = nat_le (level_scale_at rem place) 29

level_limit : (rem place : ℕ) → rem < 6 → place < 16 → level_scale_at rem place ≤ 29
unfolding level_test level_scale_at scale_rows
level_limit rem place h k = leb-true _ _ (each_below (level_test rem) 16 place (each_below (λ r. all_below (level_test r) 16) 6 rem refl h) k)

pub scale_limit : (qp place : ℕ) → qp ≤ 51 → place ≤ 15 → scale_at qp place ≤ 29 * 2 ^ 8
unfolding scale_at
scale_limit qp place h k = mul-le _ _ _ _ (level_limit (qp % 6) place (omega arith) (omega arith)) (pow-le-pow_right (lit< tt) {j = 8} (omega arith))

-- the code's shift loses nothing
pub shifted_is : (m : ℕ) → m ≤ 29 * 2 ^ 8 → to_z w32 (m % 2 ^ 32) ≡ pos m
shifted_is m h = omega (arith, ints)

pub shifted_fits : (m : ℕ) → m ≤ 29 * 2 ^ 8 → FitsSigned w32 (pos (m % 2 ^ 32))
shifted_fits m h = omega (arith, ints)

pub abs_of : (n : ℕ) (z : ℤ) → IsWithin n z → unsigned_abs z ≤ n
abs_of n (pos a) w = omega (arith, ints)
abs_of n (negsuc a) w = omega (arith, ints)

pub within_of : (n : ℕ) (z : ℤ) → unsigned_abs z ≤ n → IsWithin n z
within_of n (pos a) h = record { least = omega (arith, ints); most = omega (arith, ints) }
within_of n (negsuc a) h = record { least = omega (arith, ints); most = omega (arith, ints) }

pub product_within : (m n : ℕ) (a b : ℤ) → IsWithin m a → IsWithin n b → IsWithin (m * n) (a *ℤ b)
product_within m n a b wa wb = within_of (m * n) (a *ℤ b) (rw (unsigned_abs-mul a b) (mul-le _ _ _ _ (abs_of m a wa) (abs_of n b wb)))

pub product_is : (level scale : ℤ) → IsWithin 4096 level → IsWithin (29 * 2 ^ 8) scale → kept (kept level *ℤ kept scale) ≡ level *ℤ scale
product_is level scale wl ws =
    let k = kept_within 4096 level (lit< tt) wl in
    let s = kept_within (29 * 2 ^ 8) scale (lit< tt) ws in
    rw (k, s) (kept_within _ _ (lit< tt) (product_within 4096 (29 * 2 ^ 8) level scale wl ws))

pub within_wider : (m n : ℕ) (z : ℤ) → m ≤ n → IsWithin m z → IsWithin n z
within_wider m n z h w = record { least = omega (arith, ints); most = omega (arith, ints) }

pub product_small : (level scale : ℤ) → IsWithin 4096 level → IsWithin (29 * 2 ^ 8) scale → IsWithin (2 ^ 27) (kept (kept level *ℤ kept scale))
product_small level scale wl ws = rw (product_is level scale wl ws) (within_wider _ (2 ^ 27) _ (lit≤ tt) (product_within 4096 (29 * 2 ^ 8) level scale wl ws))
