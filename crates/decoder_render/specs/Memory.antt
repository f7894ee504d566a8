-- How the memory of a `Prepared` goes together.
use Rattle.std.specs.Prelude.{◌≡◌, ℕ, ◌<◌, ◌^◌, min, List, length}
use Rattle.cb_types.specs.SizeMbs.{IsWithinLimits, macroblocks}
use Rattle.cb_types.specs.declared.mark.MbMark.{MbMark}
use Rattle.cb_types.specs.declared.size.SizeMbs.{SizeMbs}
use Rattle.recon.specs.Laws.{AreWhole}
use Rattle.vd_plane.specs.Picture.{HasSize}
use Rattle.vd_plane.specs.declared.picture.Picture.{Picture}
use Rattle.vd_plane.specs.declared.tile.Tile.{Tile}

-- So many units and slices, so many macroblocks, and these marks, tiles and picture are what a picture of this size needs.
pub record IsMemoryFor (size : SizeMbs) (units slices mbs : ℕ) (marks : List MbMark) (tiles : List Tile) (picture : Picture) : Type 0 where
  pub size_is : IsWithinLimits size
  pub few : units < 2 ^ 32
  pub of_slices : slices ≡ min units (macroblocks size)
  pub of_macroblocks : mbs ≡ macroblocks size
  pub of_marks : length marks ≡ macroblocks size
  pub of_tiles : length tiles ≡ macroblocks size
  pub whole : AreWhole marks tiles (macroblocks size)
  pub of_picture : HasSize picture size
