-- The chroma of an intra macroblock.
use Rattle.std.specs.Prelude.{◌≡◌, ℕ, ◌<◌, true, List}
use Rattle.cb_types.specs.declared.macroblock.Macroblock.{Macroblock}
use Rattle.motion.specs.declared.around.Around.{Around}
use Rattle.vd_plane.specs.Tiles.{tile_cb, tile_cr}
use Rattle.vd_plane.specs.declared.tile.Tile.{Tile}
use Rattle.recon.specs.Edges.{cb_edges, cr_edges}
use Rattle.recon.specs.Intra.{has_chroma_edges, intra_chroma_sample}
use Rattle.recon.specs.Residuals.{chroma_of, chroma_residual, constructed, dc_of}

-- the equations of Cb and Cr, and that the mode has its samples
pub record IsIntraChroma (mb : Macroblock) (tiles : List Tile) (usable : Around) (qpc mode : ℕ) (tile : Tile) : Type 0 where
  pub available : has_chroma_edges (cb_edges tiles usable) mode ≡ true
  pub cb : (x y : ℕ) → x < 8 → y < 8 → tile_cb tile x y ≡ constructed (intra_chroma_sample (cb_edges tiles usable) mode x y) (chroma_residual (dc_of mb 0) (chroma_of mb 0) qpc x y)
  pub cr : (x y : ℕ) → x < 8 → y < 8 → tile_cr tile x y ≡ constructed (intra_chroma_sample (cr_edges tiles usable) mode x y) (chroma_residual (dc_of mb 1) (chroma_of mb 1) qpc x y)
