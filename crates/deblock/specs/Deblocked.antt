-- The planes of a picture after the deblocking filter (H.264, 8.7). The planes don't touch one another.
use Rattle.std.specs.Prelude.{ℕ, zero, suc, ◌+◌, ◌*◌, ℤ, List}
use Rattle.cb_types.specs.SizeMbs.{macroblocks}
use Rattle.cb_types.specs.declared.mark.MbMark.{MbMark}
use Rattle.cb_types.specs.declared.size.SizeMbs.{SizeMbs}
use Rattle.vd_plane.specs.SampleArray.{SampleArray, array_of}
use Rattle.deblock.specs.Lines.{Line, after_chroma_line, after_luma_line, line}
use Rattle.deblock.specs.Thresholds.{chroma, luma}

-- the samples after so many lines, one after the other, from the line with number `first` on
unfoldable pub after_lines : (Line → List ℕ → List ℕ) → (ℕ → Line) → ℕ → ℕ → List ℕ → List ℕ
after_lines filtered lines first zero samples = samples
after_lines filtered lines first (suc n) samples = filtered (lines (first + n)) (after_lines filtered lines first n samples)

abbrev pub after_luma_lines : ℕ → List MbMark → ℕ → ℕ → List ℕ → List ℕ
after_luma_lines width marks first n samples = after_lines after_luma_line (line luma width marks) first n samples

abbrev pub after_chroma_lines : ℤ → ℕ → List MbMark → ℕ → ℕ → List ℕ → List ℕ
after_chroma_lines offset width marks first n samples = after_lines after_chroma_line (line (chroma offset) width marks) first n samples

-- luma after all lines: four edges of sixteen lines in each direction of a macroblock
abbrev pub deblocked_luma : SizeMbs → List MbMark → SampleArray → SampleArray
deblocked_luma size marks a = array_of a.width a.height (after_luma_lines size.width marks 0 (128 * macroblocks size) a.samples)

-- Cb or Cr after all lines: two edges of eight lines in each direction of a macroblock
abbrev pub deblocked_chroma : ℤ → SizeMbs → List MbMark → SampleArray → SampleArray
deblocked_chroma offset size marks a = array_of a.width a.height (after_chroma_lines offset size.width marks 0 (32 * macroblocks size) a.samples)
