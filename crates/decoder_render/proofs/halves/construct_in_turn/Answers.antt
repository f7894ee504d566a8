use Rattle.std.proofs.Common.{◌≡◌, ◌+◌, ◌≤◌, ℕ, Bool, true, false, length, refl, subst, arith}
use Rattle.recon.specs.Laws.{AreWhole}
use Rattle.decoder_render.specs.Halves.{part_from}
use Rattle.decoder_render.specs.Parsed.{slice_at, start_of}
use Rattle.decoder_render.proofs.HalvesLemmas.{Step, are_one_more, step_builds, step_keeps, step_memory, step_stops}
use Rattle.decoder_render.proofs.ParsedLemmas.{starts_rise}
use Rattle.decoder_render.proofs.halves.construct_in_turn.Goals as goal

pub loop-number-init : goal.loop-number-init
loop-number-init g c = record { built = λ n after below. absurd (omega (arith, after, below)); whole = c.requires.whole }

pub construct_among-requires-clause-marks : goal.construct_among-requires-clause-marks
construct_among-requires-clause-marks g c =
    let source = c.args.source in
    let rise = starts_rise source.slices.now c.loop-number.number c.args.to (omega arith) in
    omega (arith, rise, c.requires.room, c.loop-number.auto.marks)

pub construct_among-requires-clause-first : goal.construct_among-requires-clause-first
construct_among-requires-clause-first g c = c.requires.each c.args.from c.requires.some

pub construct_among-requires-clause-slice : goal.construct_among-requires-clause-slice
construct_among-requires-clause-slice g c = c.requires.each c.loop-number.number (omega arith)

pub loop-number-preserved : goal.loop-number-preserved
loop-number-preserved g c =
    let source = c.args.source in
    let from = c.args.from in
    let n = c.loop-number.number in
    let start : ℕ = start_of source.slices.now from in
    let marks = c.loop-number.marks in
    let tiles = c.loop-number.into in
    let new_marks = c.construct_among.new.marks in
    let new_tiles = c.construct_among.new.into in
    let rise = starts_rise source.slices.now n c.args.to (omega arith) in
    let room : start_of source.slices.now n + (slice_at source.slices.now n).count ≤ start + length marks = omega (arith, rise, c.requires.room, c.loop-number.auto.marks) in
    let same : length tiles ≡ length marks = omega (arith, c.requires.tiles, c.loop-number.auto.marks, c.loop-number.auto.into) in
    let long : length marks ≡ length new_marks = omega (arith, c.construct_among.auto.marks) in
    let step = subst (λ (b : Bool). Step source n start marks new_marks tiles new_tiles b) c.if-not-construct_among.false c.construct_among.ensures in
    record {
      built = are_one_more source (part_from start new_marks new_tiles) from n
          (step_keeps source n start marks new_marks tiles new_tiles from (omega arith) refl room same true step c.loop-number.invariant.built)
          (step_builds source n start marks new_marks tiles new_tiles from (omega arith) refl room same step);
      whole = subst (λ (k : ℕ). AreWhole new_marks new_tiles k) long (step_memory source n start marks new_marks tiles new_tiles from (omega arith) refl room same true step c.loop-number.invariant.whole);
    }

pub returns-then-not-construct_among-clause-built : goal.returns-then-not-construct_among-clause-built
returns-then-not-construct_among-clause-built g c =
    let source = c.args.source in
    let from = c.args.from in
    let n = c.loop-number.number in
    let start : ℕ = start_of source.slices.now from in
    let marks = c.loop-number.marks in
    let tiles = c.loop-number.into in
    let new_marks = c.construct_among.new.marks in
    let new_tiles = c.construct_among.new.into in
    let rise = starts_rise source.slices.now n c.args.to (omega arith) in
    let room : start_of source.slices.now n + (slice_at source.slices.now n).count ≤ start + length marks = omega (arith, rise, c.requires.room, c.loop-number.auto.marks) in
    let same : length tiles ≡ length marks = omega (arith, c.requires.tiles, c.loop-number.auto.marks, c.loop-number.auto.into) in
    let step = subst (λ (b : Bool). Step source n start marks new_marks tiles new_tiles b) c.if-not-construct_among.true c.construct_among.ensures in
    record {
      after = omega arith;
      below = omega arith;
      before = step_keeps source n start marks new_marks tiles new_tiles from (omega arith) refl room same false step c.loop-number.invariant.built;
      stops = step_stops source n start marks new_marks tiles new_tiles from (omega arith) refl room same step;
    }

pub returns-then-not-construct_among-clause-whole : goal.returns-then-not-construct_among-clause-whole
returns-then-not-construct_among-clause-whole g c =
    let source = c.args.source in
    let from = c.args.from in
    let n = c.loop-number.number in
    let start : ℕ = start_of source.slices.now from in
    let marks = c.loop-number.marks in
    let tiles = c.loop-number.into in
    let new_marks = c.construct_among.new.marks in
    let new_tiles = c.construct_among.new.into in
    let rise = starts_rise source.slices.now n c.args.to (omega arith) in
    let room : start_of source.slices.now n + (slice_at source.slices.now n).count ≤ start + length marks = omega (arith, rise, c.requires.room, c.loop-number.auto.marks) in
    let same : length tiles ≡ length marks = omega (arith, c.requires.tiles, c.loop-number.auto.marks, c.loop-number.auto.into) in
    let long : length marks ≡ length new_marks = omega (arith, c.construct_among.auto.marks) in
    subst (λ (k : ℕ). AreWhole new_marks new_tiles k) long
    (step_memory source n start marks new_marks tiles new_tiles from (omega arith) refl room same c.construct_among.result c.construct_among.ensures c.loop-number.invariant.whole)
