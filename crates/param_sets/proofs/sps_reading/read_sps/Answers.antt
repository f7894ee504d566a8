use Rattle.std.proofs.Common.{inl, inr, subst, true, ◌≡◌, ◌⊎◌}
use Rattle.bit_io.specs.Trailing.{EndsHere}
use Rattle.cb_types.specs.SizeMbs.{IsWithinLimits}
use Rattle.cb_types.specs.declared.size.SizeMbs.{SizeMbs}
use Rattle.element_tables.specs.declared.elements.Stop.TheVariants.{Malformed, OtherProfile}
use Rattle.param_sets.proofs.SpsRanges.{size_fits}
use Rattle.param_sets.proofs.SpsAnswers.{bad_answer, bad_when, large_answer, not_from, profile_answer, set_answer, spelled_when, stops_when}
use Rattle.param_sets.proofs.sps_reading.read_sps.Goals as goal
use Rattle.param_sets.proofs.sps_reading.read_sps.Goals.{else-not-has_vui-via-then-not-has_vui+else-not-ends_here, else-not-has_vui-via-else-not-has_vui}

pub size-requires : goal.size-requires
size-requires c =
    let found = c.in-Ok.found in
    let fits = size_fits c.new-reader.result found.0 found.1 c.read_sequence.new.reader c.in-Ok.ensures.answer in
    record { width = fits.0; height = fits.1 }

pub returns-in-Err-Malformed : goal.returns-in-Err-Malformed
returns-in-Err-Malformed c =
    let stops = stops_when c.args.rbsp.now c.new-reader.result c.in-Err-Malformed.field-0 Malformed c.new-reader.ensures c.in-Err-Malformed.field-0-is c.in-Err-Malformed.ensures.answer in
    let a = bad_answer c.args.rbsp.now (inl stops) in
    record { found = a.found; only = a.only; bad = a.bad; not_baseline = a.not_baseline; too_large = a.too_large; no_other = a.no_other; accepted = a.accepted }

pub returns-in-Err-OtherProfile : goal.returns-in-Err-OtherProfile
returns-in-Err-OtherProfile c =
    let stops = stops_when c.args.rbsp.now c.new-reader.result c.in-Err-OtherProfile.field-0 OtherProfile c.new-reader.ensures c.in-Err-OtherProfile.field-0-is c.in-Err-OtherProfile.ensures.answer in
    let a = profile_answer c.args.rbsp.now stops in
    record { found = a.found; only = a.only; bad = a.bad; not_baseline = a.not_baseline; too_large = a.too_large; no_other = a.no_other; accepted = a.accepted }

pub returns-then-not-ends_here : goal.returns-then-not-ends_here
returns-then-not-ends_here c =
    let open_end = not_from c.ends_here.result _ c.ends_here.ensures c.if-not-ends_here.true in
    let bad = bad_when c.args.rbsp.now c.new-reader.result c.in-Ok.found c.read_sequence.new.reader c.new-reader.ensures c.in-Ok.ensures.answer c.if-not-has_vui.true open_end in
    let a = bad_answer c.args.rbsp.now bad in
    record { found = a.found; only = a.only; bad = a.bad; not_baseline = a.not_baseline; too_large = a.too_large; no_other = a.no_other; accepted = a.accepted }

pub returns-then-not-is_within_limits : goal.returns-then-not-is_within_limits
returns-then-not-is_within_limits c =
    let ends : (c.in-Ok.found.1 ≡ true) ⊎ EndsHere c.read_sequence.new.reader =
    elim c.else-not-has_vui.branch [
      | else-not-has_vui-via-then-not-has_vui+else-not-ends_here w ↦ inr (w.ends_here.ensures.0 w.if-not-ends_here.false)
      | else-not-has_vui-via-else-not-has_vui w ↦ inl w.if-not-has_vui.false
    ]
    in
    let spelled = spelled_when c.args.rbsp.now c.new-reader.result c.in-Ok.found c.read_sequence.new.reader c.new-reader.ensures c.in-Ok.ensures.answer ends in
    let beyond = subst (λ (x : SizeMbs). ¬ IsWithinLimits x) c.size.ensures (not_from c.is_within_limits.result _ c.is_within_limits.ensures c.if-not-is_within_limits.true) in
    let a = large_answer c.args.rbsp.now c.in-Ok.found.0 spelled beyond in
    record { found = a.found; only = a.only; bad = a.bad; not_baseline = a.not_baseline; too_large = a.too_large; no_other = a.no_other; accepted = a.accepted }

pub returns : goal.returns
returns c =
    let ends : (c.in-Ok.found.1 ≡ true) ⊎ EndsHere c.read_sequence.new.reader =
    elim c.else-not-has_vui.branch [
      | else-not-has_vui-via-then-not-has_vui+else-not-ends_here w ↦ inr (w.ends_here.ensures.0 w.if-not-ends_here.false)
      | else-not-has_vui-via-else-not-has_vui w ↦ inl w.if-not-has_vui.false
    ]
    in
    let spelled = spelled_when c.args.rbsp.now c.new-reader.result c.in-Ok.found c.read_sequence.new.reader c.new-reader.ensures c.in-Ok.ensures.answer ends in
    let within = subst IsWithinLimits c.size.ensures (c.is_within_limits.ensures.0 c.if-not-is_within_limits.false) in
    let a = set_answer c.args.rbsp.now c.in-Ok.found.0 spelled within in
    record { found = a.found; only = a.only; bad = a.bad; not_baseline = a.not_baseline; too_large = a.too_large; no_other = a.no_other; accepted = a.accepted }
