use Rattle.std.proofs.Common.{◌+◌, ◌*◌, arith}
use Rattle.recon.proofs.Parts.{part_at}
use Rattle.recon.proofs.raw.raw_tile.Goals as goal

pub returns-clause-y : goal.returns-clause-y
returns-clause-y c = λ x y across down. part_at c.args.samples.now c.copy_from_slice.new.self 256 0 (16 * y + x) (16 * y + x) c.copy_from_slice.ensures.after (omega arith) (omega arith)

pub returns-clause-cb : goal.returns-clause-cb
returns-clause-cb c = λ x y across down. part_at c.args.samples.now c.copy_from_slice-2.new.self 64 256 (8 * y + x) (256 + 8 * y + x) c.copy_from_slice-2.ensures.after (omega arith) (omega arith)

pub returns-clause-cr : goal.returns-clause-cr
returns-clause-cr c = λ x y across down. part_at c.args.samples.now c.copy_from_slice-3.new.self 64 320 (8 * y + x) (320 + 8 * y + x) c.copy_from_slice-3.ensures.after (omega arith) (omega arith)
