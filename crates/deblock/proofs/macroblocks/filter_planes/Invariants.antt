use Rattle.std.proofs.Common.{◌≡◌, ◌*◌}
use Rattle.deblock.specs.Deblocked.{after_chroma_lines, after_luma_lines}
use Rattle.deblock.proofs.macroblocks.filter_planes.Given as goal

abbrev pub invariant-loop-mb : goal.invariant-loop-mb
invariant-loop-mb l = record {
  y : l.y ≡ after_luma_lines l.fn.size.width l.marks 0 (128 * l.mb) l.initial.y;
  cb : l.cb ≡ after_chroma_lines l.info.chroma_qp_index_offset l.fn.size.width l.marks 0 (32 * l.mb) l.initial.cb;
  cr : l.cr ≡ after_chroma_lines l.info.chroma_qp_index_offset l.fn.size.width l.marks 0 (32 * l.mb) l.initial.cr;
}
