use Rattle.decoder_render.proofs.parsing.parse_unit.Goals as goal

pub returns-in-Some-clause-reads : goal.returns-in-Some-clause-reads
returns-in-Some-clause-reads c =
    let reads = c.parse_slice.ensures.reads in
    rw c.in-Some.is (rw c.as_slice.ensures.value at reads)
