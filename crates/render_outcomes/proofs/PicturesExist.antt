-- Pictures of a size that show given tiles, and planes with other samples.
use Rattle.std.proofs.Common.{◌≡◌, ℕ, ◌*◌, ◌%◌, ◌≤◌, List, length, refl, ◌∙◌, arith}
use Rattle.cb_types.specs.SizeMbs.{IsWithinLimits}
use Rattle.cb_types.specs.declared.size.SizeMbs.{SizeMbs}
use Rattle.vd_plane.specs.ChromaFormat.{Is420}
use Rattle.vd_plane.specs.Picture.{HasSize}
use Rattle.vd_plane.specs.SampleArray.{IsInside, IsPlane, SampleArray, array_of, sample}
use Rattle.vd_plane.specs.Tiles.{ShowsTiles, macroblock_at, tile_at, tile_cb, tile_cr, tile_y}
use Rattle.vd_plane.specs.declared.picture.Picture.{Picture}
use Rattle.vd_plane.specs.declared.tile.Tile.{Tile}
use Rattle.vd_plane.proofs.Samples.{sample_at}
use Rattle.render_outcomes.proofs.Tables.{length-table, table, table_at}

-- a plane with a given sample at each place
abbrev plane_of : (ℕ → ℕ → ℕ) → ℕ → ℕ → SampleArray
plane_of shown width height = array_of width height (table shown width height)

plane_is : (shown : ℕ → ℕ → ℕ) (width height : ℕ) → 1 ≤ width → width ≤ 4096 → 1 ≤ height → height ≤ 4096 → IsPlane (plane_of shown width height)
plane_is shown width height some_column columns some_row rows =
    record { count = length-table shown width height; some_column = some_column; columns = columns; some_row = some_row; rows = rows }

plane_shows : (shown : ℕ → ℕ → ℕ) (width height x y : ℕ) → IsInside (plane_of shown width height) x y → sample (plane_of shown width height) x y ≡ shown x y
plane_shows shown width height x y inside = sample_at (plane_of shown width height) x y inside.column ∙ table_at shown width height x y inside.column inside.row

module _ (tiles : List Tile) (size : SizeMbs) (limits : IsWithinLimits size) where
  abbrev y_shown : ℕ → ℕ → ℕ
  y_shown x y = tile_y (tile_at tiles (macroblock_at 16 size.width x y)) (x % 16) (y % 16)

  abbrev cb_shown : ℕ → ℕ → ℕ
  cb_shown x y = tile_cb (tile_at tiles (macroblock_at 8 size.width x y)) (x % 8) (y % 8)

  abbrev cr_shown : ℕ → ℕ → ℕ
  cr_shown x y = tile_cr (tile_at tiles (macroblock_at 8 size.width x y)) (x % 8) (y % 8)

  -- the planes go together as those of a picture
  is_420 : Is420 (plane_of y_shown (16 * size.width) (16 * size.height)) (plane_of cb_shown (8 * size.width) (8 * size.height)) (plane_of cr_shown (8 * size.width) (8 * size.height))
  is_420 =
      let wide = limits.some_column in
      let narrow = limits.columns in
      let high = limits.some_row in
      let low = limits.rows in
      record {
        y_plane = plane_is y_shown (16 * size.width) (16 * size.height) (omega arith) (omega arith) (omega arith) (omega arith);
        cb_plane = plane_is cb_shown (8 * size.width) (8 * size.height) (omega arith) (omega arith) (omega arith) (omega arith);
        cr_plane = plane_is cr_shown (8 * size.width) (8 * size.height) (omega arith) (omega arith) (omega arith) (omega arith);
        macroblocks_across = omega arith;
        macroblocks_down = omega arith;
        cb_width = omega arith;
        cb_height = omega arith;
        cr_width = omega arith;
        cr_height = omega arith;
      }

  -- the picture that shows the tiles
  pub shown_picture : Picture
  shown_picture = record {
    y = plane_of y_shown (16 * size.width) (16 * size.height);
    cb = plane_of cb_shown (8 * size.width) (8 * size.height);
    cr = plane_of cr_shown (8 * size.width) (8 * size.height);
    format = is_420;
  }

  pub shown_size : HasSize shown_picture size
  unfolding shown_picture
  shown_size = record { width = refl; height = refl }

  pub shown_tiles : ShowsTiles tiles size.width shown_picture
  unfolding shown_picture
  shown_tiles = record {
    y = plane_shows y_shown (16 * size.width) (16 * size.height);
    cb = plane_shows cb_shown (8 * size.width) (8 * size.height);
    cr = plane_shows cr_shown (8 * size.width) (8 * size.height);
  }

-- a plane with as many other samples
pub same_sides_plane : (a : SampleArray) (samples : List ℕ) → IsPlane a → length samples ≡ length a.samples → IsPlane (array_of a.width a.height samples)
same_sides_plane a samples plane same = record {
  count = same ∙ plane.count;
  some_column = plane.some_column;
  columns = plane.columns;
  some_row = plane.some_row;
  rows = plane.rows;
}

-- a picture with as many other samples in each plane
pub with_planes : (p : Picture) (y cb cr : List ℕ) → length y ≡ length p.y.samples → length cb ≡ length p.cb.samples → length cr ≡ length p.cr.samples → Picture
with_planes p y cb cr same_y same_cb same_cr =
    let format = p.format in
    record {
      y = array_of p.y.width p.y.height y;
      cb = array_of p.cb.width p.cb.height cb;
      cr = array_of p.cr.width p.cr.height cr;
      format = record {
        y_plane = same_sides_plane p.y y format.y_plane same_y;
        cb_plane = same_sides_plane p.cb cb format.cb_plane same_cb;
        cr_plane = same_sides_plane p.cr cr format.cr_plane same_cr;
        macroblocks_across = format.macroblocks_across;
        macroblocks_down = format.macroblocks_down;
        cb_width = format.cb_width;
        cb_height = format.cb_height;
        cr_width = format.cr_width;
        cr_height = format.cr_height;
      };
    }

pub with_planes-parts : (p : Picture) (y cb cr : List ℕ) (same_y : length y ≡ length p.y.samples) (same_cb : length cb ≡ length p.cb.samples) (same_cr : length cr ≡ length p.cr.samples)
    → ((with_planes p y cb cr same_y same_cb same_cr).y ≡ array_of p.y.width p.y.height y)
    × ((with_planes p y cb cr same_y same_cb same_cr).cb ≡ array_of p.cb.width p.cb.height cb)
    × ((with_planes p y cb cr same_y same_cb same_cr).cr ≡ array_of p.cr.width p.cr.height cr)
unfolding with_planes
with_planes-parts p y cb cr same_y same_cb same_cr = (refl, refl, refl)
