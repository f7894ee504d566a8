use Rattle.std.proofs.Common.{ℕ, ◌≡◌, ◌+◌, ◌*◌, cond, arith}
use Rattle.deblock.specs.Deblocked.{after_luma_lines}
use Rattle.deblock.specs.Lines.{after_chroma_line, after_luma_line, line}
use Rattle.deblock.specs.Thresholds.{chroma, luma}
use Rattle.deblock.proofs.Steps.{lines_more}
use Rattle.deblock.proofs.macroblocks.filter_direction.Goals as goal

pub returns-clause-y : goal.returns-clause-y
returns-clause-y c =
    let w : ℕ = c.args.size.width in
    let l = line luma w c.args.marks.now in
    let first : ℕ = 128 * c.args.mb + cond c.args.is_vertical 0 64 in
    let two : c.odd_edge.new.y ≡ after_luma_lines w c.args.marks.now first 32 c.args.y.now = lines_more after_luma_line l first 16 16 _ 32 _ _ _ (omega arith) (omega arith) c.first_edge.ensures.y c.odd_edge.ensures in
    let three : c.even_edge.new.y ≡ after_luma_lines w c.args.marks.now first 48 c.args.y.now = lines_more after_luma_line l first 32 16 _ 48 _ _ _ (omega arith) (omega arith) two c.even_edge.ensures.y in
    lines_more after_luma_line l first 48 16 _ 64 _ _ _ (omega arith) (omega arith) three c.odd_edge-2.ensures

pub returns-clause-cb : goal.returns-clause-cb
returns-clause-cb c =
    lines_more after_chroma_line (line (chroma c.args.info.now.chroma_qp_index_offset) c.args.size.width c.args.marks.now) (32 * c.args.mb + cond c.args.is_vertical 0 16) 8 8 _ 16 _ _ _ (omega arith) (omega arith) c.first_edge.ensures.cb c.even_edge.ensures.cb

pub returns-clause-cr : goal.returns-clause-cr
returns-clause-cr c =
    lines_more after_chroma_line (line (chroma c.args.info.now.chroma_qp_index_offset) c.args.size.width c.args.marks.now) (32 * c.args.mb + cond c.args.is_vertical 0 16) 8 8 _ 16 _ _ _ (omega arith) (omega arith) c.first_edge.ensures.cr c.even_edge.ensures.cr
