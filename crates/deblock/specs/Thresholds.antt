-- The thresholds of the filter at an edge (H.264, 8.7.2.2).
use Rattle.std.specs.Prelude.{ℕ, ◌+◌, ◌/◌, ℤ, pos, ◌+ℤ◌, if◌then◌else◌}
use Rattle.cb_tables.specs.ClippingBounds.{tc0_at}
use Rattle.cb_tables.specs.FilterThresholds.{alpha_at, beta_at}
use Rattle.cb_types.specs.declared.mark.MbMark.{MbMark}
use Rattle.int_transform.specs.ChromaQuantizer.{chroma_qp_from, clipped_qp}
use Rattle.deblock.specs.declared.line.Filter.{Filter}

-- Luma or a chroma array: how many samples wide and high a macroblock is there, and its quantizer where luma's is given
pub record Channel : Type 0 where
  pub side : ℕ
  pub quantizer : ℕ → ℕ

abbrev pub luma : Channel
luma = record { side = 16; quantizer = λ qp. qp }

-- Cb or Cr, with chroma_qp_index_offset
abbrev pub chroma : ℤ → Channel
chroma offset = record { side = 8; quantizer = λ qp. chroma_qp_from qp offset }

-- luma's QP of a macroblock, which counts as 0 for I_PCM
abbrev pub qp_of : MbMark → ℕ
qp_of mark = if mark.pcm then 0 else mark.qp

-- qPav: the mean of both, rounded up
abbrev pub mean_qp : Channel → MbMark → MbMark → ℕ
mean_qp channel p q = (channel.quantizer (qp_of p) + channel.quantizer (qp_of q) + 1) / 2

-- indexA and indexB, with the offsets of the slice that holds q0
abbrev pub index_a : Channel → MbMark → MbMark → ℕ
index_a channel p q = clipped_qp (pos (mean_qp channel p q) +ℤ q.alpha)

abbrev pub index_b : Channel → MbMark → MbMark → ℕ
index_b channel p q = clipped_qp (pos (mean_qp channel p q) +ℤ q.beta)

-- how a line of this strength is filtered, with α by indexA, β by indexB, and tC0 by indexA and strength
abbrev pub filter_by : ℕ → ℕ → ℕ → Filter
filter_by a b strength = record { strength = strength; alpha = alpha_at a; beta = beta_at b; tc0 = tc0_at a strength }

abbrev pub filter_between : Channel → MbMark → MbMark → ℕ → Filter
filter_between channel p q strength = filter_by (index_a channel p q) (index_b channel p q) strength
