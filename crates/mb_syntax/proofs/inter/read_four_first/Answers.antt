use Rattle.mb_syntax.proofs.InterKindLemmas.{four_first_no_subs, four_first_no_pattern, four_first_read}
use Rattle.mb_syntax.specs.MacroblockLayer.{place_before}
use Rattle.mb_syntax.proofs.inter.read_four_first.Goals as goal

pub returns-in_err-subs : goal.returns-in_err-subs
returns-in_err-subs c = rw c.from_residual.ensures (four_first_no_subs c.args.slice.now (place_before c.args.reader.now) c.requires.in_p c.args.reader.now c.in_err-subs.ensures)

pub returns-in_err-pattern : goal.returns-in_err-pattern
returns-in_err-pattern c = rw c.from_residual-in_err-pattern.ensures (four_first_no_pattern c.args.slice.now (place_before c.args.reader.now) c.requires.in_p c.in_ok-subs.subs c.args.reader.now c.read_first_subs.new.reader
    c.in_ok-subs.ensures.0 c.in_ok-subs.ensures.1 c.in_err-pattern.ensures)

pub returns : goal.returns
returns c = four_first_read c.args.slice.now (place_before c.args.reader.now) c.requires.in_p c.in_ok-subs.subs c.in_ok-pattern.pattern c.args.reader.now c.read_first_subs.new.reader c.read_pattern.new.reader
    c.in_ok-subs.ensures.0 c.in_ok-subs.ensures.1 c.in_ok-pattern.ensures.0 c.in_ok-pattern.ensures.1
