use Rattle.mb_syntax.proofs.IntraLemmas.{intra4_no_chroma, intra4_no_modes, intra4_no_pattern, intra4_read}
use Rattle.mb_syntax.specs.MacroblockLayer.{place_before}
use Rattle.mb_syntax.proofs.intra.read_intra4.Goals as goal

pub returns-in_err-modes : goal.returns-in_err-modes
returns-in_err-modes c = rw c.from_residual.ensures (intra4_no_modes c.args.slice.now (place_before c.args.reader.now) c.args.reader.now c.in_err-modes.ensures)

pub returns-in_err-chroma : goal.returns-in_err-chroma
returns-in_err-chroma c = rw c.from_residual-in_err-chroma.ensures (intra4_no_chroma c.args.slice.now (place_before c.args.reader.now) c.in_ok-modes.modes c.args.reader.now c.read_modes.new.reader
    c.in_ok-modes.ensures.0 c.in_ok-modes.ensures.1 c.in_err-chroma.ensures)

pub returns-in_err-pattern : goal.returns-in_err-pattern
returns-in_err-pattern c = rw c.from_residual-in_err-pattern.ensures (intra4_no_pattern c.args.slice.now (place_before c.args.reader.now) c.in_ok-modes.modes c.in_ok-chroma.chroma c.args.reader.now c.read_modes.new.reader c.read_chroma_mode.new.reader
    c.in_ok-modes.ensures.0 c.in_ok-modes.ensures.1 c.in_ok-chroma.ensures.0 c.in_ok-chroma.ensures.1 c.in_err-pattern.ensures)

pub returns : goal.returns
returns c = intra4_read c.args.slice.now (place_before c.args.reader.now) c.in_ok-modes.modes c.in_ok-chroma.chroma c.in_ok-pattern.pattern c.args.reader.now c.read_modes.new.reader c.read_chroma_mode.new.reader c.read_pattern.new.reader
    c.in_ok-modes.ensures.0 c.in_ok-modes.ensures.1 c.in_ok-chroma.ensures.0 c.in_ok-chroma.ensures.1 c.in_ok-pattern.ensures.0 c.in_ok-pattern.ensures.1
