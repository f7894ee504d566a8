use Rattle.std.proofs.Common.{◌≡◌, ℕ, ◌≤◌}
use Rattle.motion.specs.Border.{mark_at}
use Rattle.vd_plane.specs.Tiles.{tile_at}
use Rattle.recon.specs.Columns.{AreColumns}
use Rattle.recon.specs.Laws.{AreWhole}
use Rattle.recon.specs.Modes.{slice_modes}
use Rattle.recon.specs.Quantizer.{qp_before}
use Rattle.recon.specs.Rebuilt.{AreRebuilt}
use Rattle.recon.specs.References.{pictures_of}
use Rattle.recon.specs.Slice.{slice_of}
use Rattle.recon.proofs.construction.rebuild.Given as goal

abbrev pub invariant-loop-number : goal.invariant-loop-number
invariant-loop-number l =
    let slice = slice_of l.info l.header l.list.entries (pictures_of l.refs) l.size l.macroblocks in
    record {
      qp : l.qp ≡ qp_before l.info l.header l.macroblocks l.number;
      few : l.qp ≤ 51;
      columns : AreColumns l.header.first_mb l.size.width (slice_modes l.info.constrained_intra_pred_flag l.header.first_mb l.size.width l.macroblocks l.number) l.columns;
      rebuilt : AreRebuilt slice l.marks l.into l.number;
      whole : AreWhole l.initial.marks l.initial.into l.count → AreWhole l.marks l.into l.count;
      other_marks : (k : ℕ) → l.number ≤ k → mark_at l.marks k ≡ mark_at l.initial.marks k;
      other_tiles : (k : ℕ) → l.number ≤ k → tile_at l.into k ≡ tile_at l.initial.into k;
    }
