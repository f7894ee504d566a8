-- The prediction modes of Intra4x4 blocks, and what else of intra macroblocks is spelled by one codeword.
use Rattle.std.proofs.Common.{◌≡◌, ◌≢◌, ℕ, zero, suc, ◌<◌, Bool, true, false, List, ◌∷◌, ◌++◌, refl, sym, ap, ◌∙◌, arith}
use Rattle.bit_io.specs.Bits.{u}
use Rattle.bit_io.specs.Codewords.{IsU}
use Rattle.bit_io.specs.Reads.{BeginsNone, IsPrefixFree}
use Rattle.bit_io.proofs.LawLemmas.{u_prefix_free}
use Rattle.bit_io.proofs.NumberLemmas.{u-zeros}
use Rattle.cb_types.specs.declared.macroblock.Mode.{Mode}
use Rattle.cb_types.specs.declared.macroblock.Mode.TheVariants.{Predicted, Remaining}
use Rattle.mb_syntax.specs.Prediction.{IsMode, mode_bits}

pub one_bit : (flag : ℕ) (xs : List Bool) → flag ≡ 1 → u flag 1 ++ xs ≡ true ∷ xs
unfolding u
one_bit flag xs e = ap (λ (x : ℕ). u x 1 ++ xs) e

pub zero_bit : (flag : ℕ) (xs : List Bool) → flag < 2 → flag ≢ 1 → u flag 1 ++ xs ≡ false ∷ xs
unfolding u
zero_bit zero xs h other = refl
zero_bit (suc zero) xs h other = absurd (other refl)
zero_bit (suc (suc n)) xs h other = absurd (omega (arith, h))

pub no_flag : (old : List Bool) → BeginsNone (IsU 1) (λ v. u v 1) old → BeginsNone IsMode mode_bits old
no_flag old none = λ mode. elim mode as (λ (m : Mode). (rest : List Bool) → IsMode m → old ≡ mode_bits m ++ rest → ⊥) [
  | Predicted ↦ λ rest is e. none 1 rest (omega arith) (e ∙ sym (one_bit 1 rest refl))
  | Remaining m ↦ λ rest is e. none 0 (u m 3 ++ rest) (omega arith) (e ∙ sym (zero_bit 0 (u m 3 ++ rest) (omega arith) (λ f. omega (arith, f))))
]

pub no_remaining : (old mid : List Bool) → old ≡ false ∷ mid → BeginsNone (IsU 3) (λ v. u v 3) mid → BeginsNone IsMode mode_bits old
no_remaining old mid start none = λ mode. elim mode as (λ (m : Mode). (rest : List Bool) → IsMode m → old ≡ mode_bits m ++ rest → ⊥) [
  | Predicted ↦ λ rest is e. let both : true ∷ rest ≡ false ∷ mid = sym e ∙ start in cc
  | Remaining m ↦ λ rest is e. let both : false ∷ (u m 3 ++ rest) ≡ false ∷ mid = sym e ∙ start in let tails : u m 3 ++ rest ≡ mid = cc in none m rest is (sym tails)
]

pub mode_free : IsPrefixFree IsMode mode_bits
mode_free Predicted Predicted after_v after_w h k e = let tails : after_v ≡ after_w = cc in (refl, tails)
mode_free Predicted (Remaining w) after_v after_w h k e = absurd cc
mode_free (Remaining v) Predicted after_v after_w h k e = absurd cc
mode_free (Remaining v) (Remaining w) after_v after_w h k e =
    let tails : u v 3 ++ after_v ≡ u w 3 ++ after_w = cc in
    let same = u_prefix_free 3 v w after_v after_w h k tails in
    (ap Remaining same.0, same.1)

pub predicted_bits : u 1 1 ≡ mode_bits Predicted
unfolding u
predicted_bits = refl

pub remaining_bits : (mode : ℕ) → mode < 8 → u mode 4 ≡ mode_bits (Remaining mode)
remaining_bits mode h = u-zeros mode 1 3 h
