-- H.264, 8.5.8: the quantizer of chroma.
use Rattle.std.specs.Prelude.{ℕ, min, ℤ, pos, negsuc, ◌+ℤ◌}
use Rattle.cb_tables.specs.ChromaQp.{chroma_qp_at}

-- Clip3( 0, 51, z )
abbrev pub clipped_qp : ℤ → ℕ
clipped_qp (pos n) = min n 51
clipped_qp (negsuc n) = 0

-- QPc, from luma's QP and the offset of the picture parameter set
unfoldable pub chroma_qp_from : ℕ → ℤ → ℕ
chroma_qp_from qp offset = chroma_qp_at (clipped_qp (pos qp +ℤ offset))
