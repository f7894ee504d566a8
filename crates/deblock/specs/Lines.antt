-- The lines of samples across the edges of a plane, and what filtering one does to the plane's samples (H.264, 8.7). The samples of a
-- plane stand row by row, so those of a line stand one place apart across a vertical edge, and a row apart across a horizontal one.
use Rattle.std.specs.Prelude.{ℕ, ◌+◌, ◌-◌, ◌*◌, ◌/◌, ◌%◌, Bool, ◌==◌, if◌then◌else◌, List, slice_index, slice_set, Option, Some, None}
use Rattle.cb_types.specs.declared.mark.MbMark.{MbMark}
use Rattle.deblock.specs.declared.line.Edge.{Edge}
use Rattle.deblock.specs.declared.line.Filter.{Filter}
use Rattle.deblock.specs.declared.line.Samples.{Samples}
use Rattle.deblock.specs.declared.line.Side.{Side}
use Rattle.deblock.specs.Edges.{before, mark_at, strength_at}
use Rattle.deblock.specs.Filters.{chroma_filtered, luma_filtered, side_of}
use Rattle.deblock.specs.Thresholds.{Channel, filter_between}

-- where q0 stands, how far apart the samples of the line stand, and how it is filtered
pub record Line : Type 0 where
  pub at : ℕ
  pub step : ℕ
  pub filter : Filter

abbrev pub line_of : ℕ → ℕ → Filter → Line
line_of at step filter = record { at = at; step = step; filter = filter }

-- p0 to p3
abbrev pub side_before : List ℕ → ℕ → ℕ → Side
side_before samples at step = side_of (slice_index samples (at - step)) (slice_index samples (at - 2 * step)) (slice_index samples (at - 3 * step)) (slice_index samples (at - 4 * step))

-- q0 to q3
abbrev pub side_after : List ℕ → ℕ → ℕ → Side
side_after samples at step = side_of (slice_index samples at) (slice_index samples (at + step)) (slice_index samples (at + 2 * step)) (slice_index samples (at + 3 * step))

-- the three samples of each side that a filter changes, put in their places
abbrev pub put_before : List ℕ → ℕ → ℕ → Side → List ℕ
put_before samples at step p = slice_set (slice_set (slice_set samples (at - step) p.s0) (at - 2 * step) p.s1) (at - 3 * step) p.s2

abbrev pub put_after : List ℕ → ℕ → ℕ → Side → List ℕ
put_after samples at step q = slice_set (slice_set (slice_set samples at q.s0) (at + step) q.s1) (at + 2 * step) q.s2

abbrev pub put_line : List ℕ → ℕ → ℕ → Samples → List ℕ
put_line samples at step line = put_after (put_before samples at step line.p) at step line.q

-- the one sample of each side that is changed in chroma
abbrev pub put_edge : List ℕ → ℕ → ℕ → Edge → List ℕ
put_edge samples at step edge = slice_set (slice_set samples (at - step) edge.p0) at edge.q0

-- a plane's samples after the filter of one line
unfoldable pub after_luma_line : Line → List ℕ → List ℕ
after_luma_line line samples = put_line samples line.at line.step (luma_filtered line.filter (side_before samples line.at line.step) (side_after samples line.at line.step))

unfoldable pub after_chroma_line : Line → List ℕ → List ℕ
after_chroma_line line samples = put_edge samples line.at line.step (chroma_filtered line.filter (slice_index samples (line.at - 2 * line.step)) (slice_index samples (line.at - line.step)) (slice_index samples line.at) (slice_index samples (line.at + line.step)))

-- the filter of a line of an edge, where p0 is in the first of these macroblocks; at an edge of the picture, where there is none, the
-- strength is 0 and the rest doesn't matter
abbrev pub filter_from : Channel → List MbMark → Option ℕ → ℕ → ℕ → Filter
filter_from channel marks None mb strength = filter_between channel (mark_at marks mb) (mark_at marks mb) strength
filter_from channel marks (Some other) mb strength = filter_between channel (mark_at marks other) (mark_at marks mb) strength

-- A line across an edge of a channel, in a picture so many macroblocks wide. Edges stand four samples apart in each channel, so chroma
-- has those of luma with even numbers; number k of its lines has the strength at the place of that edge where luma's line 2 * k is.
abbrev pub edge_line : Channel → ℕ → List MbMark → ℕ → Bool → ℕ → ℕ → Line
edge_line channel width marks mb is_vertical edge k =
    let side = channel.side in
    let stride = side * width in
    let luma_edge = 16 / side * edge in
    let column = side * (mb % width) + (if is_vertical then 4 * edge else k) in
    let row = side * (mb / width) + (if is_vertical then k else 4 * edge) in
    line_of (row * stride + column) (if is_vertical then 1 else stride)
    (filter_from channel marks (before width mb is_vertical luma_edge) mb (strength_at width marks mb is_vertical luma_edge (16 / side * k / 4)))

-- The lines of a channel in their order: by macroblock; in each the vertical edges from the left, then the horizontal edges from the
-- top; along each edge from its start.
unfoldable pub line : Channel → ℕ → List MbMark → ℕ → Line
line channel width marks n =
    let side = channel.side in
    let edges = side / 4 in
    edge_line channel width marks (n / (2 * edges * side)) (n / (edges * side) % 2 == 0) (n / side % edges) (n % side)
