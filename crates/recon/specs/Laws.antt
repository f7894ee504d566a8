-- The sizes of the arrays of marks and tiles, which their types say.
use Rattle.std.specs.Prelude.{◌≡◌, ℕ, ◌<◌, List, length}
use Rattle.cb_types.specs.declared.mark.MbMark.{MbMark}
use Rattle.motion.specs.Border.{mark_at}
use Rattle.vd_plane.specs.Tiles.{tile_at}
use Rattle.vd_plane.specs.declared.tile.Tile.{Tile}

pub record IsWholeMark (mark : MbMark) : Type 0 where
  pub coded : length mark.coded ≡ 16
  pub pictures : length mark.pictures ≡ 16
  pub vectors : length mark.vectors ≡ 16

pub record IsWholeTile (tile : Tile) : Type 0 where
  pub y : length tile.y ≡ 256
  pub cb : length tile.cb ≡ 64
  pub cr : length tile.cr ≡ 64

-- of the first macroblocks
pub record AreWhole (marks : List MbMark) (tiles : List Tile) (count : ℕ) : Type 0 where
  pub of_marks : (number : ℕ) → number < count → IsWholeMark (mark_at marks number)
  pub of_tiles : (number : ℕ) → number < count → IsWholeTile (tile_at tiles number)
