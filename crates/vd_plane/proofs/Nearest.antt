-- The nearest place of a number that was cut to 64 bits.
use Rattle.std.proofs.Common.{◌≡◌, ℕ, ◌<◌, ◌^◌, ℤ, ◌+ℤ◌, pos, negsuc, FitsSigned, to_z, of_z, w64, ap, refl, ◌∙◌, arith}
use Rattle.std.specs.Int.{saturate_signed}
use Rattle.std.proofs.lemmas.Int.{to_z-of_z, to_z_pos}
use Rattle.vd_plane.specs.SampleArray.{nearest}

pub nearest-saturated : (side : ℕ) (z : ℤ) → side < 2 ^ 63 → nearest side (saturate_signed w64 z) ≡ nearest side z
nearest-saturated side (pos n) small = omega arith
nearest-saturated side (negsuc n) small = refl

pub row_nearest : (side r m : ℕ) (y q f : ℤ) → side < 2 ^ 63 → r < 2 ^ 63 → FitsSigned w64 q → f ≡ pos r → q ≡ saturate_signed w64 (y +ℤ to_z w64 (of_z w64 f)) → m ≡ nearest side (to_z w64 (of_z w64 q)) → m ≡ nearest side (y +ℤ pos r)
row_nearest side r m y q f small fits_r fits_q is_f is_q is_m =
    let row : to_z w64 (of_z w64 f) ≡ pos r = ap (λ z. to_z w64 (of_z w64 z)) is_f ∙ to_z_pos w64 r fits_r in
    is_m ∙ (ap (nearest side) (to_z-of_z w64 q fits_q) ∙ (ap (nearest side) is_q ∙ (nearest-saturated side (y +ℤ to_z w64 (of_z w64 f)) small ∙ ap (λ z. nearest side (y +ℤ z)) row)))
