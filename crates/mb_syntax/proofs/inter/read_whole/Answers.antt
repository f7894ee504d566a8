use Rattle.mb_syntax.proofs.InterKindLemmas.{whole_no_pattern, whole_no_reference, whole_no_vector, whole_read}
use Rattle.mb_syntax.specs.MacroblockLayer.{place_before}
use Rattle.mb_syntax.proofs.inter.read_whole.Goals as goal

pub returns-in_err-reference : goal.returns-in_err-reference
returns-in_err-reference c = rw c.from_residual.ensures (whole_no_reference c.args.slice.now (place_before c.args.reader.now) c.requires.in_p c.args.reader.now c.in_err-reference.ensures)

pub returns-in_err-delta : goal.returns-in_err-delta
returns-in_err-delta c = rw c.from_residual-in_err-delta.ensures (whole_no_vector c.args.slice.now (place_before c.args.reader.now) c.requires.in_p c.requires.few c.in_ok-reference.reference c.args.reader.now c.read_reference.new.reader
    c.in_ok-reference.ensures.0 c.in_ok-reference.ensures.1 c.in_err-delta.ensures)

pub returns-in_err-pattern : goal.returns-in_err-pattern
returns-in_err-pattern c = rw c.from_residual-in_err-pattern.ensures (whole_no_pattern c.args.slice.now (place_before c.args.reader.now) c.requires.in_p c.requires.few c.in_ok-reference.reference c.in_ok-delta.delta
    c.args.reader.now c.read_reference.new.reader c.read_vector.new.reader
    c.in_ok-reference.ensures.0 c.in_ok-reference.ensures.1 c.in_ok-delta.ensures.0 c.in_ok-delta.ensures.1 c.in_err-pattern.ensures)

pub returns : goal.returns
returns c = whole_read c.args.slice.now (place_before c.args.reader.now) c.requires.in_p c.in_ok-reference.reference c.in_ok-delta.delta c.in_ok-pattern.pattern
    c.args.reader.now c.read_reference.new.reader c.read_vector.new.reader c.read_pattern.new.reader
    c.in_ok-reference.ensures.0 c.in_ok-reference.ensures.1 c.in_ok-delta.ensures.0 c.in_ok-delta.ensures.1 c.in_ok-pattern.ensures.0 c.in_ok-pattern.ensures.1
