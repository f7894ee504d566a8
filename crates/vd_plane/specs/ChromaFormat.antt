-- How the three arrays of a picture go together (H.264, 6.2 and Table 6-1, 4:2:0).
use Rattle.std.specs.Prelude.{◌≡◌, ◌*◌, ◌%◌}
use Rattle.vd_plane.specs.SampleArray.{SampleArray, IsPlane}

-- luma of whole macroblocks, and two chroma arrays of half its sides
pub record Is420 (y cb cr : SampleArray) : Type 0 where
  pub y_plane : IsPlane y
  pub cb_plane : IsPlane cb
  pub cr_plane : IsPlane cr
  pub macroblocks_across : y.width % 16 ≡ 0
  pub macroblocks_down : y.height % 16 ≡ 0
  pub cb_width : y.width ≡ 2 * cb.width
  pub cb_height : y.height ≡ 2 * cb.height
  pub cr_width : y.width ≡ 2 * cr.width
  pub cr_height : y.height ≡ 2 * cr.height
