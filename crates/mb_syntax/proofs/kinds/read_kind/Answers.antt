use Rattle.std.proofs.Common.{◌-◌}
use Rattle.mb_syntax.proofs.WholeKinds.{in_i, in_p, intra_kind_read, kind_read, no_type}
use Rattle.mb_syntax.specs.MacroblockLayer.{place_before}
use Rattle.mb_syntax.proofs.kinds.read_kind.Goals as goal

pub returns-in_err-number : goal.returns-in_err-number
returns-in_err-number c = rw c.from_residual.ensures (no_type c.args.slice.now (place_before c.args.reader.now) c.args.reader.now c.in_err-number.ensures.reads.1)

pub returns-then-not-slice : goal.returns-then-not-slice
returns-then-not-slice c = intra_kind_read c.args.slice.now c.in_ok-number.number c.in_ok-number.number c.args.reader.now c.read_ue.new.self c.read_intra.new.reader c.read_intra.result
    (in_i c.args.slice.now.is_p c.in_ok-number.number c.if-not-slice.true) c.in_ok-number.ensures.reads.0 c.in_ok-number.ensures.reads.1 c.read_intra.ensures

pub returns-then-number-ge5 : goal.returns-then-number-ge5
returns-then-number-ge5 c = intra_kind_read c.args.slice.now c.in_ok-number.number (c.in_ok-number.number - 5) c.args.reader.now c.read_ue.new.self c.read_intra-then-number-ge5.new.reader c.read_intra-then-number-ge5.result
    (in_p c.args.slice.now.is_p c.in_ok-number.number c.if-not-slice.false c.if-number-ge5.true) c.in_ok-number.ensures.reads.0 c.in_ok-number.ensures.reads.1 c.read_intra-then-number-ge5.ensures

pub returns-else-number-ge5 : goal.returns-else-number-ge5
returns-else-number-ge5 c = kind_read c.args.slice.now c.in_ok-number.number c.args.reader.now c.read_ue.new.self c.read_inter.new.reader c.read_inter.result
    c.in_ok-number.ensures.reads.0 c.in_ok-number.ensures.reads.1 c.read_inter.ensures
