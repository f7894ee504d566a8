-- The constructed samples beside a macroblock, where intra prediction may use them. H.264, 8.3.3 and 8.3.4.
use Rattle.std.specs.Prelude.{ℕ, List, map}
use Rattle.std.specs.List.{range_with_len}
use Rattle.std.specs.Option.{option_map}
use Rattle.motion.specs.declared.around.Around.{Around}
use Rattle.vd_plane.specs.Tiles.{tile_at, tile_cb, tile_cr, tile_y}
use Rattle.vd_plane.specs.declared.tile.Tile.{Tile}
use Rattle.recon.specs.declared.edges.ChromaEdges.{ChromaEdges}
use Rattle.recon.specs.declared.edges.Edges.{Edges}

-- the first samples of a column from the top, and of a row from the left
abbrev pub in_column : (ℕ → ℕ → ℕ) → ℕ → ℕ → List ℕ
in_column samples column count = map (λ y. samples column y) (range_with_len 0 count)

abbrev pub in_row : (ℕ → ℕ → ℕ) → ℕ → ℕ → List ℕ
in_row samples row count = map (λ x. samples x row) (range_with_len 0 count)

-- The last column of the macroblock to the left, the last row of the one above, the first four samples of the last row of the one
-- above and right, and the last sample of the one above and left.
unfoldable pub luma_edges : List Tile → Around → Edges
luma_edges tiles around = record {
  left = option_map (λ k. in_column (tile_y (tile_at tiles k)) 15 16) around.left;
  top = option_map (λ k. in_row (tile_y (tile_at tiles k)) 15 16) around.above;
  right = option_map (λ k. in_row (tile_y (tile_at tiles k)) 15 4) around.above_right;
  corner = option_map (λ k. tile_y (tile_at tiles k) 15 15) around.above_left;
}

unfoldable pub cb_edges : List Tile → Around → ChromaEdges
cb_edges tiles around = record {
  left = option_map (λ k. in_column (tile_cb (tile_at tiles k)) 7 8) around.left;
  top = option_map (λ k. in_row (tile_cb (tile_at tiles k)) 7 8) around.above;
  corner = option_map (λ k. tile_cb (tile_at tiles k) 7 7) around.above_left;
}

unfoldable pub cr_edges : List Tile → Around → ChromaEdges
cr_edges tiles around = record {
  left = option_map (λ k. in_column (tile_cr (tile_at tiles k)) 7 8) around.left;
  top = option_map (λ k. in_row (tile_cr (tile_at tiles k)) 7 8) around.above;
  corner = option_map (λ k. tile_cr (tile_at tiles k) 7 7) around.above_left;
}
