use Rattle.std.proofs.Common.{◌≡◌, ℕ, ◌<◌, ◌%◌}
use Rattle.vd_plane.specs.SampleArray.{IsInside, SameSides, sample}
use Rattle.vd_plane.specs.Tiles.{macroblock_at, tile_at, tile_cb}
use Rattle.vd_plane.proofs.tile.place_cb.Given as goal

abbrev pub invariant-loop-m : goal.invariant-loop-m
invariant-loop-m l = record {
  sides : SameSides l.initial.plane l.plane;
  samples : (x y : ℕ) → IsInside l.plane x y → macroblock_at 8 l.width x y < l.m → sample l.plane x y ≡ tile_cb (tile_at l.tiles (macroblock_at 8 l.width x y)) (x % 8) (y % 8);
}
