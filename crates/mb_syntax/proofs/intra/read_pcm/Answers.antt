use Rattle.mb_syntax.proofs.IntraLemmas.{pcm_none_first, pcm_none_second, pcm_read}
use Rattle.mb_syntax.proofs.intra.read_pcm.Goals as goal

pub returns-in_err-read_alignment : goal.returns-in_err-read_alignment
returns-in_err-read_alignment c = rw c.from_residual.ensures (pcm_none_first c.args.slice.now c.args.reader.now c.in_err-read_alignment.ensures)

pub returns-in_err-samples : goal.returns-in_err-samples
returns-in_err-samples c = rw c.from_residual-in_err-samples.ensures (pcm_none_second c.args.slice.now c.args.reader.now c.read_alignment.new.reader c.in_ok-read_alignment.ensures.1 c.in_err-samples.ensures)

pub returns : goal.returns
returns c = pcm_read c.args.slice.now c.in_ok-samples.samples c.args.reader.now c.read_alignment.new.reader c.read_samples.new.reader c.in_ok-read_alignment.ensures.1 c.in_ok-samples.ensures.0 c.in_ok-samples.ensures.1
