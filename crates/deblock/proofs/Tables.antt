-- Bounds of the tables of thresholds.
use Rattle.std.proofs.Common.{◌≡◌, ℕ, zero, suc, ◌≤◌, nat_le, Bool, refl, ap, ◌∙◌, arith}
use Rattle.std.proofs.lemmas.Bool.{leb-true}
use Rattle.cb_tables.specs.ClippingBounds.{tc0_at, strength_1, strength_2, strength_3}
use Rattle.cb_tables.specs.FilterThresholds.{alpha_at, alpha_row, beta_at}
use Rattle.int_transform.proofs.Computed.{each_below}
use Rattle.deblock.specs.Thresholds.{filter_by}

alpha_test : ℕ → Bool
alpha_test index = nat_le (alpha_at index) 255

pub alpha_most : (index : ℕ) → index ≤ 51 → alpha_at index ≤ 255
unfolding alpha_test alpha_row
alpha_most index h = leb-true _ _ (each_below alpha_test 52 index refl (omega arith))

tc0_test : ℕ → ℕ → Bool
tc0_test strength index = nat_le (tc0_at index strength) 25

tc0_most_of : (index : ℕ) → index ≤ 51 → (tc0_at index 1 ≤ 25) × (tc0_at index 2 ≤ 25) × (tc0_at index 3 ≤ 25)
unfolding tc0_test tc0_at strength_1 strength_2 strength_3
tc0_most_of index h = (
  leb-true _ _ (each_below (tc0_test 1) 52 index refl (omega arith)),
  leb-true _ _ (each_below (tc0_test 2) 52 index refl (omega arith)),
  leb-true _ _ (each_below (tc0_test 3) 52 index refl (omega arith)),
)

pub tc0_most : (index strength : ℕ) → index ≤ 51 → 1 ≤ strength → strength ≤ 3 → tc0_at index strength ≤ 25
tc0_most index zero h some most = absurd (omega arith)
tc0_most index (suc zero) h some most = (tc0_most_of index h).0
tc0_most index (suc (suc zero)) h some most = (tc0_most_of index h).1
tc0_most index (suc (suc (suc zero))) h some most = (tc0_most_of index h).2
tc0_most index (suc (suc (suc (suc n)))) h some most = absurd (omega arith)

-- beyond the table
pub tc0_none : (index : ℕ) → tc0_at index 4 ≡ 0
unfolding tc0_at
tc0_none index = refl

pub strong_filter : (a b strength : ℕ) → strength ≡ 4 → filter_by a b strength ≡ record { strength = strength; alpha = alpha_at a; beta = beta_at b; tc0 = 0 }
strong_filter a b strength is =
    ap (λ (n : ℕ). record { strength = strength; alpha = alpha_at a; beta = beta_at b; tc0 = n }) (ap (tc0_at a) is ∙ tc0_none a)
