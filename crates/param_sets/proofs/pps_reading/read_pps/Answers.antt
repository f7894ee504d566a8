use Rattle.std.proofs.Common.{inl, inr}
use Rattle.element_tables.specs.declared.elements.Stop.TheVariants.{Malformed, OtherProfile}
use Rattle.param_sets.proofs.PpsAnswers.{bad_answer, profile_answer, read_when, set_answer, stops_when}
use Rattle.param_sets.proofs.SpsAnswers.{not_from}
use Rattle.param_sets.proofs.pps_reading.read_pps.Goals as goal

pub returns-in-Err-Malformed : goal.returns-in-Err-Malformed
returns-in-Err-Malformed c =
    let stops = stops_when c.args.rbsp.now c.new-reader.result c.in-Err-Malformed.field-0 Malformed c.new-reader.ensures c.in-Err-Malformed.field-0-is c.in-Err-Malformed.ensures.answer in
    let a = bad_answer c.args.rbsp.now (inl stops) in
    record { found = a.found; only = a.only; bad = a.bad; not_baseline = a.not_baseline; no_bad_sps = a.no_bad_sps; no_size = a.no_size; accepted = a.accepted }

pub returns-in-Err-OtherProfile : goal.returns-in-Err-OtherProfile
returns-in-Err-OtherProfile c =
    let stops = stops_when c.args.rbsp.now c.new-reader.result c.in-Err-OtherProfile.field-0 OtherProfile c.new-reader.ensures c.in-Err-OtherProfile.field-0-is c.in-Err-OtherProfile.ensures.answer in
    let a = profile_answer c.args.rbsp.now (inl stops) in
    record { found = a.found; only = a.only; bad = a.bad; not_baseline = a.not_baseline; no_bad_sps = a.no_bad_sps; no_size = a.no_size; accepted = a.accepted }

pub returns-then-ends_here : goal.returns-then-ends_here
returns-then-ends_here c =
    let read = read_when c.args.rbsp.now c.new-reader.result c.in-Ok.pps c.read_picture.new.reader c.new-reader.ensures c.in-Ok.ensures.answer in
    let a = set_answer c.args.rbsp.now c.in-Ok.pps (c.read_picture.new.reader, read, c.ends_here.ensures.0 c.if-ends_here.true) in
    record { found = a.found; only = a.only; bad = a.bad; not_baseline = a.not_baseline; no_bad_sps = a.no_bad_sps; no_size = a.no_size; accepted = a.accepted }

pub returns-then-more_data : goal.returns-then-more_data
returns-then-more_data c =
    let read = read_when c.args.rbsp.now c.new-reader.result c.in-Ok.pps c.read_picture.new.reader c.new-reader.ensures c.in-Ok.ensures.answer in
    let a = profile_answer c.args.rbsp.now (inr (c.in-Ok.pps, c.read_picture.new.reader, read, c.more_data.ensures.0 c.if-more_data.true)) in
    record { found = a.found; only = a.only; bad = a.bad; not_baseline = a.not_baseline; no_bad_sps = a.no_bad_sps; no_size = a.no_size; accepted = a.accepted }

pub returns-else-more_data : goal.returns-else-more_data
returns-else-more_data c =
    let read = read_when c.args.rbsp.now c.new-reader.result c.in-Ok.pps c.read_picture.new.reader c.new-reader.ensures c.in-Ok.ensures.answer in
    let open_end = not_from c.ends_here.result _ c.ends_here.ensures c.if-ends_here.false in
    let no_more = not_from c.more_data.result _ c.more_data.ensures c.if-more_data.false in
    let a = bad_answer c.args.rbsp.now (inr (c.in-Ok.pps, c.read_picture.new.reader, read, open_end, no_more)) in
    record { found = a.found; only = a.only; bad = a.bad; not_baseline = a.not_baseline; no_bad_sps = a.no_bad_sps; no_size = a.no_size; accepted = a.accepted }
