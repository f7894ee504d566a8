-- The edges between 4x4 luma blocks, and how strongly each is filtered (H.264, 8.7). An edge is named by the macroblock that holds q0,
-- by whether it is vertical, and by its number there, 0 to 3 from the left or from the top. It has four places, 0 to 3 from the top or
-- from the left, at each of which one block meets one other.
use Rattle.std.specs.Prelude.{ℕ, zero, suc, ◌+◌, ◌%◌, Bool, false, not, ◌&&◌, ◌||◌, ◌==◌, if◌then◌else◌, pos, [], List, Option, Some, None}
use Rattle.std.specs.List.{slice_index_or}
use Rattle.cb_types.specs.Blocks.{block_at}
use Rattle.cb_types.specs.Neighbours.{neighbour_a, neighbour_b}
use Rattle.cb_types.specs.declared.mark.MbMark.{MbMark}
use Rattle.deblock.specs.Strength.{strength}

-- the mark of a macroblock; beyond the last one, one that says nothing
abbrev pub no_mark : MbMark
no_mark = record { slice = 0; intra = false; pcm = false; qp = 0; idc = 0; alpha = pos 0; beta = pos 0; coded = []; pictures = []; vectors = [] }

abbrev pub mark_at : List MbMark → ℕ → MbMark
mark_at marks mb = slice_index_or marks mb no_mark

-- the macroblock that holds p0, in a picture so many macroblocks wide: for edge 0 the one to the left or above, none at an edge of the
-- picture, and else the one that holds q0
abbrev pub before : ℕ → ℕ → Bool → ℕ → Option ℕ
before width mb is_vertical zero = if is_vertical then neighbour_a width mb else neighbour_b width mb
before width mb is_vertical (suc edge) = Some mb

-- the number of the block at a place, of a column of blocks for a vertical edge, of a row of blocks for a horizontal one
abbrev pub block_along : Bool → ℕ → ℕ → ℕ
block_along is_vertical line place = if is_vertical then block_at line place else block_at place line

-- whether edges between these macroblocks, the second of which holds q0, are filtered: disable_deblocking_filter_idc of the second
-- is 1 where none is, and 2 where none between slices is
abbrev pub is_edge_filtered : MbMark → MbMark → Bool
is_edge_filtered p q = not (q.idc == 1) && (not (q.idc == 2) || p.slice == q.slice)

-- the strength between two macroblocks at a place of an edge. p's block is the one before q's, and the last one of its macroblock
-- at edge 0
abbrev pub strength_between : MbMark → MbMark → Bool → ℕ → ℕ → ℕ
strength_between p q is_vertical edge place =
    if is_edge_filtered p q then strength (edge == 0) p (block_along is_vertical ((edge + 3) % 4) place) q (block_along is_vertical edge place) else 0

abbrev pub strength_from : List MbMark → Option ℕ → ℕ → Bool → ℕ → ℕ → ℕ
strength_from marks None mb is_vertical edge place = 0
strength_from marks (Some other) mb is_vertical edge place = strength_between (mark_at marks other) (mark_at marks mb) is_vertical edge place

-- the strength at a place of an edge, 0 where the edge isn't filtered
unfoldable pub strength_at : ℕ → List MbMark → ℕ → Bool → ℕ → ℕ → ℕ
strength_at width marks mb is_vertical edge place = strength_from marks (before width mb is_vertical edge) mb is_vertical edge place
