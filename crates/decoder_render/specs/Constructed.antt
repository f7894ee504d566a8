-- What the construction of a slice leaves of the marks and tiles of its picture.
use Rattle.std.specs.Prelude.{◌≡◌, ℕ, ◌+◌, Bool, List, ◌++◌, MatchBool, None, length, take, drop}
use Rattle.cb_types.specs.declared.mark.MbMark.{MbMark}
use Rattle.recon.specs.Laws.{AreWhole}
use Rattle.recon.specs.Rebuilt.{AreRebuilt, StopsWithin}
use Rattle.recon.specs.Slice.{Slice}
use Rattle.vd_plane.specs.declared.tile.Tile.{Tile}
use Rattle.decoder_render.specs.Coverage.{Covered}

-- The marks and tiles from the slice's first macroblock on are its own, and the others are as before.
pub record IsConstructed (slice : Slice) (first count : ℕ) (marks new_marks : List MbMark) (tiles new_tiles : List Tile) (is_whole : Bool) : Type 0 where
  pub own_marks : List MbMark
  pub own_tiles : List Tile
  pub of_marks : length own_marks ≡ count
  pub of_tiles : length own_tiles ≡ count
  pub in_marks : new_marks ≡ take first marks ++ (own_marks ++ drop (first + count) marks)
  pub in_tiles : new_tiles ≡ take first tiles ++ (own_tiles ++ drop (first + count) tiles)
  pub whole : AreWhole (take count (drop first marks)) (take count (drop first tiles)) count → AreWhole own_marks own_tiles count
  pub rebuilt : MatchBool is_whole (AreRebuilt slice own_marks own_tiles count) (StopsWithin slice own_marks own_tiles count)

-- these marks and tiles, as what is covered
abbrev pub covering : List MbMark → List Tile → Covered
covering marks tiles = record { first = None; marks = marks; tiles = tiles }
