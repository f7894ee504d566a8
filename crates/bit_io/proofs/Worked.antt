-- The definitions at worked values.
use Rattle.std.proofs.Common.{◌≡◌, negsuc, pos, true, false, [], ◌∷◌, ◌++◌, refl}
use Rattle.bit_io.specs.Bits.{u, bits_of}
use Rattle.bit_io.specs.Codewords.{exponent, ue, se, te}
use Rattle.bit_io.specs.Escaped.{escaped}
use Rattle.bit_io.specs.Payload.{payload}
use Rattle.bit_io.specs.Trailing.{trailing_bits}

ue_of_3 : ue 3 ≡ false ∷ false ∷ true ∷ false ∷ false ∷ []
unfolding u exponent ue
ue_of_3 = refl

two_bytes : bits_of (0xA4 ∷ 0x2E ∷ []) ≡ u 5 3 ++ ue 3 ++ se (negsuc 1) ++ te 0 1 ++ trailing_bits 14
unfolding u bits_of exponent ue se te
two_bytes = refl

greatest_ue : ue 4294967294 ≡ u 4294967295 63
unfolding u exponent ue
greatest_ue = refl

se_of_both_signs : se (pos 1) ++ se (negsuc 0) ++ se (pos 2) ≡ ue 1 ++ ue 2 ++ ue 3
unfolding se
se_of_both_signs = refl

start_code : escaped (0 ∷ 0 ∷ 1 ∷ []) ≡ 0 ∷ 0 ∷ 3 ∷ 1 ∷ []
unfolding escaped
start_code = refl

zeros_at_the_end : escaped (0 ∷ 0 ∷ 0 ∷ 0 ∷ []) ≡ 0 ∷ 0 ∷ 3 ∷ 0 ∷ 0 ∷ 3 ∷ []
unfolding escaped
zeros_at_the_end = refl

without_prevention : payload (0 ∷ 0 ∷ 3 ∷ 1 ∷ []) ≡ 0 ∷ 0 ∷ 1 ∷ []
without_prevention = refl
