use Rattle.slice_header.specs.Headers.{as_read}
use Rattle.slice_header.proofs.Found.{reads_back}
use Rattle.slice_header.proofs.InfoRanges.{info_ranges}
use Rattle.slice_header.proofs.writing.write_header.Goals as goal

pub put_elements-requires-clause-ranges : goal.put_elements-requires-clause-ranges
put_elements-requires-clause-ranges c = info_ranges c.args.info.now c.requires.info

pub returns-in-Ok-clause-reads_back : goal.returns-in-Ok-clause-reads_back
returns-in-Ok-clause-reads_back c = reads_back c.args.info.now (as_read c.args.info.now c.args.header.now) _ _ (rw c.in-Ok.is at c.put_elements.ensures.ok)
