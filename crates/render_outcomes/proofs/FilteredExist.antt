-- The deblocking filter leaves a picture's planes their sizes, so there is a picture behind it.
use Rattle.std.proofs.Common.{◌≡◌, ℕ, zero, suc, ◌+◌, ◌*◌, List, length, refl, ◌∙◌}
use Rattle.std.specs.Prelude.{ℤ}
use Rattle.std.proofs.lemmas.List.{length-set}
use Rattle.cb_types.specs.SizeMbs.{macroblocks}
use Rattle.cb_types.specs.declared.mark.MbMark.{MbMark}
use Rattle.cb_types.specs.declared.size.SizeMbs.{SizeMbs}
use Rattle.deblock.specs.Deblocked.{after_chroma_lines, after_lines, after_luma_lines, deblocked_chroma, deblocked_luma}
use Rattle.deblock.specs.Lines.{Line, after_chroma_line, after_luma_line, line}
use Rattle.deblock.specs.Thresholds.{chroma, luma}
use Rattle.vd_plane.specs.declared.picture.Picture.{Picture}
use Rattle.render_outcomes.proofs.PicturesExist.{with_planes, with_planes-parts}

length-luma_line : (l : Line) (s : List ℕ) → length (after_luma_line l s) ≡ length s
unfolding after_luma_line
length-luma_line l s = simp length-set

length-chroma_line : (l : Line) (s : List ℕ) → length (after_chroma_line l s) ≡ length s
unfolding after_chroma_line
length-chroma_line l s = simp length-set

-- all lines, one after the other
length-after_lines : (filtered : Line → List ℕ → List ℕ) (lines : ℕ → Line) (first count : ℕ) (s : List ℕ) → ((l : Line) (t : List ℕ) → length (filtered l t) ≡ length t) → length (after_lines filtered lines first count s) ≡ length s
unfolding after_lines
length-after_lines filtered lines first zero s keeps = refl
length-after_lines filtered lines first (suc count) s keeps = keeps (lines (first + count)) (after_lines filtered lines first count s) ∙ length-after_lines filtered lines first count s keeps

length-luma : (size : SizeMbs) (marks : List MbMark) (s : List ℕ) → length (after_luma_lines size.width marks 0 (128 * macroblocks size) s) ≡ length s
length-luma size marks s = length-after_lines after_luma_line (line luma size.width marks) 0 (128 * macroblocks size) s length-luma_line

length-chroma : (offset : ℤ) (size : SizeMbs) (marks : List MbMark) (s : List ℕ) → length (after_chroma_lines offset size.width marks 0 (32 * macroblocks size) s) ≡ length s
length-chroma offset size marks s = length-after_lines after_chroma_line (line (chroma offset) size.width marks) 0 (32 * macroblocks size) s length-chroma_line

-- The picture has the constructed one's planes behind the filter.
pub record IsFiltered (offset : ℤ) (size : SizeMbs) (marks : List MbMark) (constructed filtered : Picture) : Type 0 where
  pub y : filtered.y ≡ deblocked_luma size marks constructed.y
  pub cb : filtered.cb ≡ deblocked_chroma offset size marks constructed.cb
  pub cr : filtered.cr ≡ deblocked_chroma offset size marks constructed.cr

pub filtered_picture : (offset : ℤ) (size : SizeMbs) (marks : List MbMark) (constructed : Picture) → (filtered : Picture) × IsFiltered offset size marks constructed filtered
filtered_picture offset size marks constructed =
    let y : List ℕ = after_luma_lines size.width marks 0 (128 * macroblocks size) constructed.y.samples in
    let cb : List ℕ = after_chroma_lines offset size.width marks 0 (32 * macroblocks size) constructed.cb.samples in
    let cr : List ℕ = after_chroma_lines offset size.width marks 0 (32 * macroblocks size) constructed.cr.samples in
    let same_y = length-luma size marks constructed.y.samples in
    let same_cb = length-chroma offset size marks constructed.cb.samples in
    let same_cr = length-chroma offset size marks constructed.cr.samples in
    let parts = with_planes-parts constructed y cb cr same_y same_cb same_cr in
    (with_planes constructed y cb cr same_y same_cb same_cr, record { y = parts.0; cb = parts.1; cr = parts.2 })
