-- The definitions at worked values.
use Rattle.std.proofs.Common.{◌≡◌, [], ◌∷◌, pos, negsuc, refl}
use Rattle.bit_io.specs.Bits.{u}
use Rattle.cb_tables.specs.Codes.{code_at}
use Rattle.cb_tables.specs.CoeffToken.{token_code}
use Rattle.cb_tables.specs.CoeffTokenChromaDc.{tokens_chroma_dc}
use Rattle.cb_tables.specs.CoeffTokenNc0To1.{tokens_nc_0_to_1}
use Rattle.cb_tables.specs.CoeffTokenNc2To3.{tokens_nc_2_to_3}
use Rattle.cb_tables.specs.RunBefore.{run_code}
use Rattle.cb_tables.specs.RunBeforeRows.{run_rows}
use Rattle.cb_tables.specs.TotalZeros.{dc_zeros_code, total_zeros_code}
use Rattle.cb_tables.specs.TotalZerosChromaDc.{dc_zeros_rows}
use Rattle.cb_tables.specs.TotalZerosRows.{total_zeros_rows}
use Rattle.cavlc.specs.Blocks.{block_bits, run_bits, token_bits, zeros_bits}
use Rattle.cavlc.specs.Coefficients.{gaps, leading_ones, nonzero}
use Rattle.cavlc.specs.Levels.{level_bits, level_word, levels_bits, word_bits}
use Rattle.cavlc.specs.Turns.{in_turn}

with_five_levels : block_bits (pos 0) 16 (pos 0 ∷ pos 3 ∷ pos 0 ∷ pos 1 ∷ negsuc 0 ∷ negsuc 0 ∷ pos 0 ∷ pos 1 ∷ pos 0 ∷ pos 0 ∷ pos 0 ∷ pos 0 ∷ pos 0 ∷ pos 0 ∷ pos 0 ∷ pos 0 ∷ []) ≡ u 583149 24
unfolding u code_at token_code tokens_chroma_dc tokens_nc_0_to_1 tokens_nc_2_to_3 run_code run_rows dc_zeros_code total_zeros_code dc_zeros_rows total_zeros_rows block_bits run_bits token_bits zeros_bits gaps leading_ones nonzero level_bits level_word levels_bits word_bits in_turn
with_five_levels = refl

of_chroma_dc : block_bits (negsuc 0) 4 (negsuc 337 ∷ negsuc 1322 ∷ pos 1 ∷ negsuc 1388 ∷ pos 0 ∷ pos 0 ∷ pos 0 ∷ pos 0 ∷ pos 0 ∷ pos 0 ∷ pos 0 ∷ pos 0 ∷ pos 0 ∷ pos 0 ∷ pos 0 ∷ pos 0 ∷ []) ≡ u 309488953677583746013860395 93
unfolding u code_at token_code tokens_chroma_dc tokens_nc_0_to_1 tokens_nc_2_to_3 run_code run_rows dc_zeros_code total_zeros_code dc_zeros_rows total_zeros_rows block_bits run_bits token_bits zeros_bits gaps leading_ones nonzero level_bits level_word levels_bits word_bits in_turn
of_chroma_dc = refl

of_fifteen : block_bits (pos 16) 15 (pos 0 ∷ pos 0 ∷ pos 1 ∷ pos 0 ∷ negsuc 0 ∷ pos 0 ∷ pos 0 ∷ pos 0 ∷ pos 0 ∷ pos 0 ∷ pos 0 ∷ pos 0 ∷ pos 0 ∷ pos 0 ∷ pos 1 ∷ pos 0 ∷ []) ≡ u 737542 22
unfolding u code_at token_code tokens_chroma_dc tokens_nc_0_to_1 tokens_nc_2_to_3 run_code run_rows dc_zeros_code total_zeros_code dc_zeros_rows total_zeros_rows block_bits run_bits token_bits zeros_bits gaps leading_ones nonzero level_bits level_word levels_bits word_bits in_turn
of_fifteen = refl
