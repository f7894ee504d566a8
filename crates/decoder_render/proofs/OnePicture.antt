-- The same marks and tiles make one picture.
use Rattle.std.proofs.Common.{◌≡◌, ℕ, ◌*◌, ◌%◌, List, sym, ap, ◌∙◌, arith}
use Rattle.deblock.specs.Deblocked.{deblocked_chroma, deblocked_luma}
use Rattle.vd_plane.specs.Picture.{HasSize, SameSamples}
use Rattle.vd_plane.specs.SampleArray.{IsInside, IsPlane, SampleArray, sample}
use Rattle.vd_plane.specs.Tiles.{ShowsTiles, macroblock_at, tile_at, tile_cb, tile_cr, tile_y}
use Rattle.vd_plane.specs.declared.picture.Picture.{Picture}
use Rattle.vd_plane.specs.declared.tile.Tile.{Tile}
use Rattle.vd_plane.proofs.Samples.{planes_are_their_samples}
use Rattle.cb_types.specs.declared.size.SizeMbs.{SizeMbs}
use Rattle.decoder_render.specs.Coverage.{Covered, Given}
use Rattle.decoder_render.specs.Outcomes.{IsDecoded}

-- planes of the same sides, with the same sample at each place
plane_one : (a b : SampleArray) (shown : ℕ → ℕ → ℕ) → IsPlane a → IsPlane b → b.width ≡ a.width → b.height ≡ a.height
    → ((x y : ℕ) → IsInside a x y → sample a x y ≡ shown x y) → ((x y : ℕ) → IsInside b x y → sample b x y ≡ shown x y) → a ≡ b
plane_one a b shown plane_a plane_b width height of_a of_b =
    let product : b.width * b.height ≡ a.width * a.height = ap (λ w. w * b.height) width ∙ ap (λ h. a.width * h) height in
    planes_are_their_samples a b plane_a plane_b
    (record { width = width; height = height; count = plane_b.count ∙ (product ∙ sym plane_a.count) })
    (λ x y inside.
    let column = inside.column in
    let row = inside.row in
    of_a x y inside ∙ sym (of_b x y (record { column = omega (arith, column, width); row = omega (arith, row, height) })))

-- before the filter
constructed_one : (tiles : List Tile) (size : SizeMbs) (p q : Picture) → HasSize p size → HasSize q size → ShowsTiles tiles size.width p → ShowsTiles tiles size.width q → SameSamples p q
constructed_one tiles size p q has also shows other =
    let f = p.format in
    let g = q.format in
    let width : q.y.width ≡ p.y.width = also.width ∙ sym has.width in
    let height : q.y.height ≡ p.y.height = also.height ∙ sym has.height in
    let cb_across = f.cb_width in
    let cb_across' = g.cb_width in
    let cb_down = f.cb_height in
    let cb_down' = g.cb_height in
    let cr_across = f.cr_width in
    let cr_across' = g.cr_width in
    let cr_down = f.cr_height in
    let cr_down' = g.cr_height in
    record {
      y = plane_one p.y q.y (λ x y. tile_y (tile_at tiles (macroblock_at 16 size.width x y)) (x % 16) (y % 16)) f.y_plane g.y_plane width height shows.y other.y;
      cb = plane_one p.cb q.cb (λ x y. tile_cb (tile_at tiles (macroblock_at 8 size.width x y)) (x % 8) (y % 8)) f.cb_plane g.cb_plane (omega arith) (omega arith) shows.cb other.cb;
      cr = plane_one p.cr q.cr (λ x y. tile_cr (tile_at tiles (macroblock_at 8 size.width x y)) (x % 8) (y % 8)) f.cr_plane g.cr_plane (omega arith) (omega arith) shows.cr other.cr;
    }

-- and behind it
pub picture_one : (g : Given) (covered : Covered) (p q : Picture) → IsDecoded g covered p → IsDecoded g covered q → SameSamples p q
picture_one g covered p q is also =
    let same = constructed_one covered.tiles g.size is.constructed also.constructed is.size also.size is.shows also.shows in
    record {
      y = is.y ∙ (ap (λ (a : SampleArray). deblocked_luma g.size covered.marks a) same.y ∙ sym also.y);
      cb = is.cb ∙ (ap (λ (a : SampleArray). deblocked_chroma g.info.chroma_qp_index_offset g.size covered.marks a) same.cb ∙ sym also.cb);
      cr = is.cr ∙ (ap (λ (a : SampleArray). deblocked_chroma g.info.chroma_qp_index_offset g.size covered.marks a) same.cr ∙ sym also.cr);
    }
