use Rattle.mb_syntax.proofs.InterKindLemmas.{tall_no_parts, tall_no_pattern, tall_read}
use Rattle.mb_syntax.specs.MacroblockLayer.{place_before}
use Rattle.mb_syntax.proofs.inter.read_tall.Goals as goal

pub returns-in_err-parts : goal.returns-in_err-parts
returns-in_err-parts c = rw c.from_residual.ensures (tall_no_parts c.args.slice.now (place_before c.args.reader.now) c.requires.in_p c.args.reader.now c.in_err-parts.ensures)

pub returns-in_err-pattern : goal.returns-in_err-pattern
returns-in_err-pattern c = rw c.from_residual-in_err-pattern.ensures (tall_no_pattern c.args.slice.now (place_before c.args.reader.now) c.requires.in_p c.requires.few c.in_ok-parts.parts c.args.reader.now c.read_parts.new.reader
    c.in_ok-parts.ensures.0 c.in_ok-parts.ensures.1 c.in_err-pattern.ensures)

pub returns : goal.returns
returns c = tall_read c.args.slice.now (place_before c.args.reader.now) c.requires.in_p c.in_ok-parts.parts c.in_ok-pattern.pattern c.args.reader.now c.read_parts.new.reader c.read_pattern.new.reader
    c.in_ok-parts.ensures.0 c.in_ok-parts.ensures.1 c.in_ok-pattern.ensures.0 c.in_ok-pattern.ensures.1
