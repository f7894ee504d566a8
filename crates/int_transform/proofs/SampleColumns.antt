-- Columns of samples.
use Rattle.std.proofs.Common.{◌≡◌, ℕ, ◌^◌, ◌<◌, ℤ, pos, ◌+ℤ◌, List, map, ap, sym, ◌∙◌, subst}
use lib.Signed.{shr_z}
use Rattle.int_transform.specs.Bounds.{IsWithin}
use Rattle.int_transform.specs.Residual.{sample_from, transformed}
use Rattle.int_transform.specs.Scan.{value_at}
use Rattle.int_transform.proofs.Columns.{IsColumn}
use Rattle.int_transform.proofs.Places.{by_four}
use Rattle.int_transform.proofs.Whole.{column_within, kept, round_within, transformed_kept}

pub column_is : (first second third fourth : List ℤ) (column : ℕ) (a : List ℤ)
    → IsWithin (2 ^ 29) (value_at first column) → IsWithin (2 ^ 29) (value_at second column) → IsWithin (2 ^ 29) (value_at third column) → IsWithin (2 ^ 29) (value_at fourth column)
    → a ≡ map (λ h. shr_z (h +ℤ pos 32) 64) (transformed (kept (value_at first column)) (kept (value_at second column)) (kept (value_at third column)) (kept (value_at fourth column)))
    → IsColumn (2 ^ 25) (λ row. sample_from first second third fourth row column) a
unfolding sample_from transformed
column_is first second third fourth column a w0 w1 w2 w3 e =
    let hs : List ℤ = transformed (value_at first column) (value_at second column) (value_at third column) (value_at fourth column) in
    let is : a ≡ map (λ h. shr_z (h +ℤ pos 32) 64) hs = e ∙ ap (λ (x : List ℤ). map (λ h. shr_z (h +ℤ pos 32) 64) x) (transformed_kept _ _ _ _ w0 w1 w2 w3) in
    let value : (row : ℕ) → row < 4 → value_at a row ≡ shr_z (value_at hs row +ℤ pos 32) 64 =
    by_four (λ row. value_at a row ≡ shr_z (value_at hs row +ℤ pos 32) 64)
    (ap (λ (x : List ℤ). value_at x 0) is)
    (ap (λ (x : List ℤ). value_at x 1) is)
    (ap (λ (x : List ℤ). value_at x 2) is)
    (ap (λ (x : List ℤ). value_at x 3) is) in
    let small : (row : ℕ) → row < 4 → IsWithin (2 ^ 25) (shr_z (value_at hs row +ℤ pos 32) 64) = λ row h. round_within (value_at hs row) (column_within _ _ _ _ w0 w1 w2 w3 row (pos 0) h) in
    record { values = value; within = λ row h. subst (IsWithin (2 ^ 25)) (sym (value row h)) (small row h) }
