use Rattle.std.proofs.Common.{arith}
use Rattle.std.proofs.lemmas.List.{length-map}
use Rattle.recon.specs.References.{pictures_of}
use Rattle.decoder_render.specs.Submission.{bytes_of, items_of}
use Rattle.decoder_render.proofs.DecodeLemmas.{finished_outcome}
use Rattle.decoder_render.proofs.decoding.decode_units_at_once.Goals as goal

pub returns-in-Some-clause-outcome : goal.returns-in-Some-clause-outcome
returns-in-Some-clause-outcome g c =
    let units = bytes_of c.args.units.now in
    let many = length-map c.args.units.now items_of in
    let both = c.in-Some.ensures.accepted units c.parse_slices-parsed.ensures.parsed in
    record {
      within = omega (arith, many, c.in-Some.ensures.number, c.parse_slices-parsed.ensures.within);
      covered = _;
      before = both.0;
      refused = both.1;
    }

pub finished-requires-clause-each : goal.finished-requires-clause-each
finished-requires-clause-each g c = λ number below. c.in-None.ensures.marks number (omega (arith, below, c.parse_slices-parsed.ensures.covered))

pub returns-in-None-clause-outcome : goal.returns-in-None-clause-outcome
returns-in-None-clause-outcome g c =
    let units = bytes_of c.args.units.now in
    let many = length-map c.args.units.now items_of in
    let parsed = c.parse_slices-parsed in
    let covered = parsed.ensures.covered in
    let accepted = c.in-None.ensures.accepted units parsed.ensures.parsed in
    finished_outcome c.args.info.now c.args.size (pictures_of c.args.refs.now) units parsed.new.slices c.construct_at_once-fault.new.marks c.construct_at_once-fault.new.into parsed.result.slices
    (omega (arith, c.requires.tiles, c.construct_at_once-fault.auto.into)) (omega (arith, c.requires.marks, c.construct_at_once-fault.auto.marks)) (omega (arith, covered, parsed.ensures.inside)) accepted
    c.finished.result c.finished.new.picture parsed.result.covered covered (omega (arith, many, parsed.ensures.within))
    (λ less. c.finished.ensures.unread (omega (arith, many, less)))
    (λ all. c.finished.ensures.lacking (omega (arith, many, all)))
    (λ all. c.finished.ensures.whole (omega (arith, many, all)))
    (λ all. c.finished.ensures.decoded (omega (arith, many, all)))
    (λ less. parsed.ensures.unparsed (omega (arith, many, less)))
