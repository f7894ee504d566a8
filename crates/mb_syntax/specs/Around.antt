-- What a reader and a writer of macroblocks keep of those before: how many levels their blocks have.
use Rattle.std.specs.Prelude.{◌≡◌, ℕ, ◌+◌, ◌%◌, ◌<◌, ◌≤◌, ◌==◌, if◌then◌else◌, List, length, slice_get, slice_index, Option, Some, None, ℤ}
use Rattle.cb_types.specs.declared.macroblock.Macroblock.{Macroblock}
use Rattle.mb_syntax.specs.Counts.{chroma_place, count_in, luma_place, total_at}
use Rattle.mb_syntax.specs.Slice.{above, left_of}
use Rattle.mb_syntax.specs.declared.counts.Around.{Around}
use Rattle.mb_syntax.specs.declared.counts.Columns.{Columns}
use Rattle.mb_syntax.specs.declared.counts.Counts.{Counts}
use Rattle.mb_syntax.specs.declared.slice.Slice.{Slice}

-- These are the counts of a macroblock's blocks.
pub record IsCountOf (counts : Counts) (mb : Macroblock) : Type 0 where
  pub luma : (block : ℕ) → block < 16 → slice_index counts.luma block ≡ count_in mb (luma_place block)
  pub cb : (block : ℕ) → block < 4 → slice_index counts.cb block ≡ count_in mb (chroma_place 0 block)
  pub cr : (block : ℕ) → block < 4 → slice_index counts.cr block ≡ count_in mb (chroma_place 1 block)

-- those of Cb (plane 0) or Cr
abbrev pub chroma_counts : Counts → ℕ → List ℕ
chroma_counts counts plane = if plane == 0 then counts.cb else counts.cr

-- These are the counts of that macroblock, or none where there isn't one.
abbrev pub IsCountOfAny : Option Counts → Option Macroblock → Type 0
IsCountOfAny (Some counts) (Some mb) = IsCountOf counts mb
IsCountOfAny (Some counts) None = ⊥
IsCountOfAny None (Some mb) = ⊥
IsCountOfAny None None = Unit {0}

-- the counts around the macroblock behind these of the slice
pub record IsAround (slice : Slice) (before : List Macroblock) (around : Around) : Type 0 where
  pub left : IsCountOfAny around.left (left_of slice before)
  pub above : IsCountOfAny around.above (above slice before)

-- The counts of the last macroblock in each column: of those before, the last as many as stand side by side.
pub record AreColumns (slice : Slice) (before : List Macroblock) (columns : Columns) : Type 0 where
  pub size : length columns.counts ≡ 256
  pub each : (behind : ℕ) (mb : Macroblock) → slice_get before behind ≡ Some mb → length before ≤ behind + slice.width
      → (counts : Counts) × (slice_get columns.counts ((slice.first + behind) % slice.width) ≡ Some counts) × IsCountOf counts mb

-- The blocks of a macroblock so far, by what the luma blocks count, and those of Cb or Cr.
abbrev pub IsLumaSoFar : List (List ℤ) → List ℕ → ℕ → Type 0
IsLumaSoFar blocks counts end = (block : ℕ) → block < end → slice_index counts block ≡ total_at blocks (luma_place block)

abbrev pub IsChromaSoFar : List (List ℤ) → ℕ → List ℕ → ℕ → Type 0
IsChromaSoFar blocks plane counts end = (block : ℕ) → block < end → slice_index counts block ≡ total_at blocks (chroma_place plane block)
