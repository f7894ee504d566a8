-- A macroblock's blocks from some place on, as its parts are read and written.
use Rattle.std.specs.Prelude.{◌≡◌, ℕ, ◌+◌, ◌*◌, ◌<◌, if◌then◌else◌, Bool, List, [], length, All, slice_index, ℤ}
use Rattle.cb_types.specs.declared.macroblock.Macroblock.{Macroblock}
use Rattle.cb_types.specs.declared.macroblock.MbKind.{MbKind}
use Rattle.cavlc.specs.Turns.{AreInTurn, in_turn}
use Rattle.mb_syntax.specs.Around.{IsAround, IsChromaSoFar, IsLumaSoFar}
use Rattle.mb_syntax.specs.Blocks.{AreBlocks, IsNextBlock, block_behind, next_block_bits}
use Rattle.mb_syntax.specs.Counts.{blocks_of, chroma_place, total_at}
use Rattle.mb_syntax.specs.Kinds.{is_intra16, pattern_of}
use Rattle.mb_syntax.specs.declared.counts.Around.{Around}
use Rattle.mb_syntax.specs.declared.slice.Slice.{Slice}

-- so many blocks behind these of a macroblock
pub record AreNext (slice : Slice) (before : List Macroblock) (kind : MbKind) (behind : List (List ℤ)) (count : ℕ) (blocks : List (List ℤ)) : Type 0 where
  pub size : length blocks ≡ count
  pub each : AreInTurn (IsNextBlock slice before kind) block_behind behind blocks

abbrev pub bits_behind : Slice → List Macroblock → MbKind → List (List ℤ) → List (List ℤ) → List Bool
bits_behind slice before kind behind blocks = in_turn (next_block_bits slice before kind) block_behind behind blocks

-- So many of a macroblock's blocks lie behind, and these are the counts around it and its pattern.
pub record Stands (slice : Slice) (before : List Macroblock) (kind : MbKind) (around : Around) (pattern : ℕ) (behind : List (List ℤ)) (place : ℕ) : Type 0 where
  pub beside : IsAround slice before around
  pub same_pattern : pattern_of kind ≡ pattern
  pub size : length behind ≡ place

-- how many levels a luma block can have
abbrev pub most_luma : MbKind → ℕ
most_luma kind = if is_intra16 kind then 15 else 16

-- the counts of the first of some blocks
abbrev pub AreTotals : List (List ℤ) → List ℕ → ℕ → Type 0
AreTotals blocks counts end = (block : ℕ) → block < end → slice_index counts block ≡ total_at blocks block

-- so many blocks, and all their counts
pub record AreCounted (blocks : List (List ℤ)) (counts : List ℕ) (count : ℕ) : Type 0 where
  pub size : length blocks ≡ count
  pub totals : AreTotals blocks counts count

-- The luma block of this number can be written: it is the next of a macroblock's, and these are the counts of those before it.
pub record IsNextLuma (slice : Slice) (before : List Macroblock) (kind : MbKind) (behind : List (List ℤ)) (around : Around) (pattern most : ℕ) (counts : List ℕ) (k : ℕ) (block : List ℤ) : Type 0 where
  pub stands : Stands slice before kind around pattern behind (1 + k)
  pub most_is : most_luma kind ≡ most
  pub so_far : IsLumaSoFar behind counts k
  pub is : IsNextBlock slice before kind behind block

-- all luma blocks
pub record AreLuma (slice : Slice) (before : List Macroblock) (kind : MbKind) (behind : List (List ℤ)) (around : Around) (pattern most : ℕ) (blocks : List (List ℤ)) : Type 0 where
  pub stands : Stands slice before kind around pattern behind 1
  pub most_is : most_luma kind ≡ most
  pub are : AreNext slice before kind behind 16 blocks

-- the AC block of Cb (plane 0) or Cr of this number, and all of them
pub record IsNextChroma (slice : Slice) (before : List Macroblock) (kind : MbKind) (behind : List (List ℤ)) (around : Around) (pattern plane : ℕ) (counts : List ℕ) (k : ℕ) (block : List ℤ) : Type 0 where
  pub stands : Stands slice before kind around pattern behind (chroma_place plane k)
  pub so_far : IsChromaSoFar behind plane counts k
  pub is : IsNextBlock slice before kind behind block

pub record AreChroma (slice : Slice) (before : List Macroblock) (kind : MbKind) (behind : List (List ℤ)) (around : Around) (pattern plane : ℕ) (blocks : List (List ℤ)) : Type 0 where
  pub stands : Stands slice before kind around pattern behind (19 + 4 * plane)
  pub are : AreNext slice before kind behind 4 blocks

-- the DC blocks of Cb and Cr
pub record AreDc (slice : Slice) (before : List Macroblock) (kind : MbKind) (behind : List (List ℤ)) (pattern : ℕ) (blocks : List (List ℤ)) : Type 0 where
  pub same_pattern : pattern_of kind ≡ pattern
  pub place : length behind ≡ 17
  pub are : AreNext slice before kind behind 2 blocks

-- the DC block of Intra16x16, where it is coded
pub record IsFirst (slice : Slice) (before : List Macroblock) (kind : MbKind) (around : Around) (coded : Bool) (block : List ℤ) : Type 0 where
  pub beside : IsAround slice before around
  pub same : is_intra16 kind ≡ coded
  pub is : IsNextBlock slice before kind [] block

-- how many blocks a macroblock has, and how many levels those of chroma DC
pub record HasSizes (mb : Macroblock) : Type 0 where
  pub luma : length mb.luma ≡ 16
  pub chroma_dc : length mb.chroma_dc ≡ 2
  pub chroma_dc_levels : All (λ levels. length levels.0 ≡ 4) mb.chroma_dc
  pub chroma : length mb.chroma ≡ 2
  pub chroma_blocks : All (λ levels. length levels.0 ≡ 4) mb.chroma

-- a macroblock behind these whose blocks can be written
pub record IsSpelled (slice : Slice) (before : List Macroblock) (around : Around) (mb : Macroblock) : Type 0 where
  pub beside : IsAround slice before around
  pub sizes : HasSizes mb
  pub blocks : AreBlocks slice before mb.kind (blocks_of mb)
