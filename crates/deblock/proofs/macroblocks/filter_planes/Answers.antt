use Rattle.deblock.specs.Lines.{after_chroma_line, after_luma_line, line}
use Rattle.deblock.specs.Thresholds.{chroma, luma}
use Rattle.deblock.proofs.Steps.{both_more, no_lines}
use Rattle.deblock.proofs.macroblocks.filter_planes.Goals as goal

pub loop-mb-init : goal.loop-mb-init
loop-mb-init c = record {
  y = no_lines after_luma_line (line luma c.args.size.width c.args.marks.now) 0 c.args.y.now;
  cb = no_lines after_chroma_line (line (chroma c.args.info.now.chroma_qp_index_offset) c.args.size.width c.args.marks.now) 0 c.args.cb.now;
  cr = no_lines after_chroma_line (line (chroma c.args.info.now.chroma_qp_index_offset) c.args.size.width c.args.marks.now) 0 c.args.cr.now;
}

pub loop-mb-preserved : goal.loop-mb-preserved
loop-mb-preserved c =
    let i = c.loop-mb.invariant in
    let l = line (chroma c.args.info.now.chroma_qp_index_offset) c.args.size.width c.args.marks.now in
    let a = c.filter_direction.ensures in
    let b = c.filter_direction-in-loop-mb.ensures in record {
      y = both_more after_luma_line (line luma c.args.size.width c.args.marks.now) 64 c.loop-mb.mb c.args.y.now c.loop-mb.y c.filter_direction.new.y _ i.y a.y b.y;
      cb = both_more after_chroma_line l 16 c.loop-mb.mb c.args.cb.now c.loop-mb.cb c.filter_direction.new.cb _ i.cb a.cb b.cb;
      cr = both_more after_chroma_line l 16 c.loop-mb.mb c.args.cr.now c.loop-mb.cr c.filter_direction.new.cr _ i.cr a.cr b.cr;
    }
