-- The samples of single macroblocks (H.264, 6.3 and 6.4.1): 16 by 16 of luma and 8 by 8 of each chroma array, by rows.
use Rattle.std.specs.Prelude.{◌≡◌, ℕ, ◌+◌, ◌*◌, ◌/◌, ◌%◌, List, [], slice_index, slice_index_or}
use Rattle.vd_plane.specs.SampleArray.{SampleArray, IsInside, sample}
use Rattle.vd_plane.specs.declared.picture.Picture.{Picture}
use Rattle.vd_plane.specs.declared.tile.Tile.{Tile}

-- the sample in a column of a row of samples that stand in rows of this width
abbrev pub sample_in_rows : ℕ → List ℕ → ℕ → ℕ → ℕ
sample_in_rows width samples x y = slice_index samples (width * y + x)

-- the samples of a macroblock, each in column x of row y of its own
abbrev pub tile_y : Tile → ℕ → ℕ → ℕ
tile_y tile x y = sample_in_rows 16 tile.y x y

abbrev pub tile_cb : Tile → ℕ → ℕ → ℕ
tile_cb tile x y = sample_in_rows 8 tile.cb x y

abbrev pub tile_cr : Tile → ℕ → ℕ → ℕ
tile_cr tile x y = sample_in_rows 8 tile.cr x y

-- the tile of this number, and one without samples behind the last
abbrev pub tile_at : List Tile → ℕ → Tile
tile_at tiles m = slice_index_or tiles m (record { y = []; cb = []; cr = [] })

-- the number of the macroblock that has the sample in column x of row y, where a macroblock has so many samples a side and so
-- many macroblocks stand in a row
abbrev pub macroblock_at : ℕ → ℕ → ℕ → ℕ → ℕ
macroblock_at side width x y = y / side * width + x / side

-- Each sample of the picture, which is so many macroblocks wide, is that of its macroblock's tile.
pub record ShowsTiles (tiles : List Tile) (width : ℕ) (picture : Picture) : Type 0 where
  pub y : (x y : ℕ) → IsInside picture.y x y → sample picture.y x y ≡ tile_y (tile_at tiles (macroblock_at 16 width x y)) (x % 16) (y % 16)
  pub cb : (x y : ℕ) → IsInside picture.cb x y → sample picture.cb x y ≡ tile_cb (tile_at tiles (macroblock_at 8 width x y)) (x % 8) (y % 8)
  pub cr : (x y : ℕ) → IsInside picture.cr x y → sample picture.cr x y ≡ tile_cr (tile_at tiles (macroblock_at 8 width x y)) (x % 8) (y % 8)
