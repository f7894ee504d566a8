-- Samples as they are computed: from sums that were raised, so that they are never negative.
use Rattle.std.proofs.Common.{◌≡◌, ℕ, ◌+◌, ◌-◌, ◌*◌, ◌/◌, ◌<◌, min, ℤ, pos, negsuc, ◌+ℤ◌, arith}
use Rattle.std.specs.Int.{int_shr}
use Rattle.std.proofs.lemmas.Int.{ints}
use Rattle.inter_pred.specs.Luma.{half, six_taps, taps}
use Rattle.inter_pred.specs.Places.{clip}
use Rattle.inter_pred.specs.Rows.{centre, raised}

-- a shift of a number that was raised by a multiple of what it divides by
shifted_5 : (z : ℤ) (m : ℕ) → z +ℤ pos 2560 ≡ pos m → min (m / 32 - 80) 255 ≡ clip (int_shr z 5)
shifted_5 (pos n) m is = omega (arith, ints)
shifted_5 (negsuc n) m is = omega (arith, ints)

shifted_10 : (z : ℤ) (m : ℕ) → z +ℤ pos 737280 ≡ pos m → min (m / 1024 - 720) 255 ≡ clip (int_shr z 10)
shifted_10 (pos n) m is = omega (arith, ints)
shifted_10 (negsuc n) m is = omega (arith, ints)

pub taps-raised : (e f g h i j : ℕ) → f < 256 → i < 256 → taps e f g h i j +ℤ pos 2560 ≡ pos (raised e f g h i j)
taps-raised e f g h i j f_fits i_fits = omega (arith, ints)

pub half-raised : (e f g h i j : ℕ) → f < 256 → i < 256 → min ((raised e f g h i j + 16) / 32 - 80) 255 ≡ half e f g h i j
unfolding half
half-raised e f g h i j f_fits i_fits = shifted_5 (taps e f g h i j +ℤ pos 16) (raised e f g h i j + 16) (omega (arith, ints))

-- the sample in the centre, from sums that were raised
pub centre-raised : (a b c d e f : ℤ) (a' b' c' d' e' f' : ℕ) → a +ℤ pos 2560 ≡ pos a' → b +ℤ pos 2560 ≡ pos b' → c +ℤ pos 2560 ≡ pos c' → d +ℤ pos 2560 ≡ pos d' → e +ℤ pos 2560 ≡ pos e' → f +ℤ pos 2560 ≡ pos f'
    → b' < 65536 → e' < 65536 → centre a' b' c' d' e' f' ≡ clip (int_shr (six_taps a b c d e f +ℤ pos 512) 10)
centre-raised a b c d e f a' b' c' d' e' f' is_a is_b is_c is_d is_e is_f b_fits e_fits =
    shifted_10 (six_taps a b c d e f +ℤ pos 512) (a' + f' + 20 * (c' + d') + 655872 - 5 * (b' + e')) (omega (arith, ints))
