-- What the steps of reading a slice's macroblocks say.
use Rattle.std.specs.Prelude.{◌≡◌, ℕ, ◌+◌, ◌%◌, ◌⊎◌, List, [], ◌∷◌, ◌++◌, Bool, length}
use Rattle.bit_io.specs.Trailing.{EndsHere, HasMoreData}
use Rattle.cavlc.specs.Turns.{in_turn, state_behind}
use Rattle.cb_types.specs.declared.macroblock.Macroblock.{Macroblock}
use Rattle.mb_syntax.specs.Around.{AreColumns}
use Rattle.mb_syntax.specs.MacroblockLayer.{IsCoded, mb_bits, place_before}
use Rattle.mb_syntax.specs.SliceData.{HasSpelling, IsRest, SoFar, behind, next_bits, run_bits, start}
use Rattle.mb_syntax.specs.declared.counts.Columns.{Columns}
use Rattle.mb_syntax.specs.declared.slice.Slice.{Slice}

-- So many macroblocks of the slice lie before a place of the payload, and these bits of it, up to whole bytes, behind.
pub record IsAt (slice : Slice) (place : ℕ) (before : List Macroblock) (bits : List Bool) (columns : Columns) (count : ℕ) : Type 0 where
  pub size : length before ≡ count
  pub whole : (place + length bits) % 8 ≡ 0
  pub counts : AreColumns slice before columns

-- The bits behind a run, or in an I slice those before a macroblock, are these macroblocks and the trailing bits: the slice ends
-- there, or a macroblock stands there that isn't skipped.
abbrev pub Follows : Slice → SoFar → List Bool → List Macroblock → Type 0
Follows slice at bits [] = EndsHere bits
Follows slice at bits (mb ∷ mbs) =
    IsCoded slice at.before mb × (rest : List Bool) × (bits ≡ mb_bits slice (place_before bits) at.before mb ++ rest) × IsRest slice (behind slice at mb) rest mbs

-- These macroblocks are read: lists that the bits spell are these with a tail behind them, and each tail of this kind is one.
pub record AreRead (slice : Slice) (at : SoFar) (bits : List Bool) (mbs : List Macroblock) (IsTail : List Macroblock → Type 0) : Type 0 where
  pub forward : (tail : List Macroblock) → IsTail tail → IsRest slice at bits (mbs ++ tail)
  pub back : (all : List Macroblock) → IsRest slice at bits all → (tail : List Macroblock) × (all ≡ mbs ++ tail) × IsTail tail

-- the tail where a slice's macroblocks end
abbrev pub IsEnd : List Bool → List Macroblock → Type 0
IsEnd bits tail = (tail ≡ []) × EndsHere bits

-- A run is read and its macroblocks, and the reader stands behind it.
pub record IsBehindRun (slice : Slice) (at : SoFar) (old : List Bool) (mbs : List Macroblock) (new : List Bool) (columns : Columns) (count : ℕ) : Type 0 where
  pub to : SoFar
  pub stands : IsAt slice (to.place + length (run_bits slice to)) to.before new columns count
  pub are : AreRead slice at old mbs (Follows slice to new)

-- Macroblocks are read to the end of one that isn't skipped.
pub record IsBehindCoded (slice : Slice) (at : SoFar) (old : List Bool) (mbs : List Macroblock) (new : List Bool) (columns : Columns) (count : ℕ) : Type 0 where
  pub to : SoFar
  pub no_run : to.run ≡ 0
  pub stands : IsAt slice to.place to.before new columns count
  pub are : AreRead slice at old mbs (IsRest slice to new)

-- Macroblocks are read to the end of the slice.
pub record IsBehindAll (slice : Slice) (at : SoFar) (old : List Bool) (mbs : List Macroblock) (new : List Bool) : Type 0 where
  pub no_more : HasMoreData new → ⊥
  pub are : AreRead slice at old mbs (IsEnd new)

abbrev pub IsReadOn : Slice → SoFar → List Bool → List Macroblock → List Bool → Columns → ℕ → Type 0
IsReadOn slice at old mbs new columns count = IsBehindCoded slice at old mbs new columns count ⊎ IsBehindAll slice at old mbs new

-- No list of macroblocks is spelled by these bits.
abbrev pub NoneIs : Slice → SoFar → List Bool → Type 0
NoneIs slice at bits = (mbs : List Macroblock) → IsRest slice at bits mbs → ⊥

-- The macroblock is the next to be written behind these bits: so many lie before it in the slice, and of the last of them so many
-- are skipped and not yet counted by a run.
pub record IsNext (slice : Slice) (at : SoFar) (out : List Bool) (columns : Columns) (count run : ℕ) (mb : Macroblock) : Type 0 where
  pub place : length out ≡ at.place
  pub size : length at.before ≡ count
  pub counts : AreColumns slice at.before columns
  pub same_run : at.run ≡ run
  pub is : HasSpelling slice at.before mb

-- Macroblocks are written behind these bits, but for the last run.
pub record AreWritten (slice : Slice) (mbs : List Macroblock) (old new : List Bool) (run : ℕ) : Type 0 where
  pub bits : new ≡ old ++ in_turn (next_bits slice) (behind slice) (start (length old)) mbs
  pub place : length new ≡ (state_behind (behind slice) (start (length old)) mbs).place
  pub same_run : (state_behind (behind slice) (start (length old)) mbs).run ≡ run
