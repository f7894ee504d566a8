-- That the construction of a slice comes to an end: all its marks and samples exist, or there is the first
-- macroblock that can't be constructed (H.264, clause 8).
use Rattle.std.specs.Prelude.{◌≡◌, ℕ, ◌≤◌, ◌⊎◌, List, length}
use Rattle.cb_types.specs.declared.mark.MbMark.{MbMark}
use Rattle.recon.specs.Laws.{AreWhole}
use Rattle.recon.specs.Rebuilt.{AreRebuilt, StopsWithin}
use Rattle.recon.specs.Slice.{Slice}
use Rattle.vd_plane.specs.declared.tile.Tile.{Tile}

-- Marks and tiles of the slice's first macroblocks, which meet their equations.
pub record Construction (slice : Slice) (count : ℕ) : Type 0 where
  pub marks : List MbMark
  pub tiles : List Tile
  pub of_marks : length marks ≡ count
  pub of_tiles : length tiles ≡ count
  pub whole : AreWhole marks tiles count
  pub rebuilt : AreRebuilt slice marks tiles count

-- The first of them that can't be constructed, with the marks and tiles of those before it.
pub record Stop (slice : Slice) (count : ℕ) : Type 0 where
  pub marks : List MbMark
  pub tiles : List Tile
  pub whole : AreWhole marks tiles count
  pub stops : StopsWithin slice marks tiles count

-- A slice has one of the two.
abbrev pub SlicesAreConstructedOrStop : Type 0
SlicesAreConstructedOrStop =
    (slice : Slice) (count : ℕ)
    → 1 ≤ slice.size.width
    → Construction slice count ⊎ Stop slice count
