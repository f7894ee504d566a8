use Rattle.std.proofs.Common.{◌≡◌, ℕ, ◌<◌, false}
use Rattle.motion.specs.Partitions.{first_block, partition_of}
use Rattle.vd_plane.specs.Tiles.{tile_cb, tile_cr, tile_y}
use Rattle.recon.specs.Inputs.{slice_in}
use Rattle.recon.specs.Inter.{chroma_block, inter_cb, inter_cr, inter_luma, luma_block}
use Rattle.recon.specs.References.{is_lacking}
use Rattle.recon.specs.Slice.{kind_at}
use Rattle.recon.proofs.inter_samples.inter.Given as goal

abbrev pub invariant-loop-block : goal.invariant-loop-block
invariant-loop-block l =
    let slice = slice_in l.inputs in
    let kind = kind_at slice l.number in
    record {
      pictures : (block : ℕ) → block < 16 → first_block (partition_of kind block) < l.block → is_lacking slice.info slice.list slice.pictures (partition_of kind block).reference ≡ false;
      y : (x y : ℕ) → x < 16 → y < 16 → first_block (partition_of kind (luma_block x y)) < l.block → tile_y l.tile x y ≡ inter_luma slice l.number l.vectors x y;
      cb : (x y : ℕ) → x < 8 → y < 8 → first_block (partition_of kind (chroma_block x y)) < l.block → tile_cb l.tile x y ≡ inter_cb slice l.number l.vectors x y;
      cr : (x y : ℕ) → x < 8 → y < 8 → first_block (partition_of kind (chroma_block x y)) < l.block → tile_cr l.tile x y ≡ inter_cr slice l.number l.vectors x y;
    }
