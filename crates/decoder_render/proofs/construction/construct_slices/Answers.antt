use Rattle.std.proofs.Common.{◌≡◌, Bool, true, false, length, rules, refl, sym, subst, arith}
use Rattle.cb_types.specs.SizeMbs.{macroblocks}
use Rattle.recon.specs.References.{pictures_of}
use Rattle.decoder_render.specs.Coverage.{AreAccepted, given}
use Rattle.decoder_render.specs.Parsed.{AreParsed, IsParsedUnit, slice_at}
use Rattle.decoder_render.proofs.StepLemmas.{Step, step_accepted, step_before, step_inside, step_marks, step_refused, step_slice, step_whole}
use Rattle.decoder_render.proofs.construction.construct_slices.Goals as goal

pub loop-number-init : goal.loop-number-init
unfolding Rattle.decoder_render.specs.Coverage.AreAccepted Rattle.decoder_render.specs.Parsed.start_of
loop-number-init c = record {
  whole = c.requires.whole;
  accepted = λ units parsed. refl;
  marks = λ k lt. absurd (omega arith);
}

pub construct_at-requires-clause-slice : goal.construct_at-requires-clause-slice
construct_at-requires-clause-slice c =
    let units = c.requires.parsed.0 in
    let n = c.loop-number.number in
    step_slice c.args.info.now c.args.size (pictures_of c.args.refs.now) units c.args.slices.now c.args.macroblocks.now n c.requires.info c.requires.size (search rules)
    (c.requires.parsed.1 n (omega arith))

pub construct_at-requires-clause-macroblocks : goal.construct_at-requires-clause-macroblocks
construct_at-requires-clause-macroblocks c =
    let units = c.requires.parsed.0 in
    let n = c.loop-number.number in
    let inside = step_inside c.args.info.now c.args.size (pictures_of c.args.refs.now) units c.args.slices.now c.args.macroblocks.now n (c.requires.parsed.1 n (omega arith)) in
    omega (arith, inside.first, inside.end, c.requires.macroblocks)

pub construct_at-requires-clause-marks : goal.construct_at-requires-clause-marks
construct_at-requires-clause-marks c =
    let units = c.requires.parsed.0 in
    let n = c.loop-number.number in
    let inside = step_inside c.args.info.now c.args.size (pictures_of c.args.refs.now) units c.args.slices.now c.args.macroblocks.now n (c.requires.parsed.1 n (omega arith)) in
    omega (arith, inside.first, inside.end, c.requires.marks, c.loop-number.auto.marks)

pub construct_at-requires-clause-tiles : goal.construct_at-requires-clause-tiles
construct_at-requires-clause-tiles c =
    let units = c.requires.parsed.0 in
    let n = c.loop-number.number in
    let inside = step_inside c.args.info.now c.args.size (pictures_of c.args.refs.now) units c.args.slices.now c.args.macroblocks.now n (c.requires.parsed.1 n (omega arith)) in
    omega (arith, inside.first, inside.end, c.requires.tiles, c.loop-number.auto.into)

pub returns-then-not-construct_at-clause-accepted : goal.returns-then-not-construct_at-clause-accepted
returns-then-not-construct_at-clause-accepted c = λ units parsed.
    let info = c.args.info.now in
    let size = c.args.size in
    let pictures = pictures_of c.args.refs.now in
    let slices = c.args.slices.now in
    let mbs = c.args.macroblocks.now in
    let n = c.loop-number.number in
    let unit : IsParsedUnit info size units slices mbs n = parsed n (omega arith) in
    let marks = c.loop-number.marks in
    let tiles = c.loop-number.into in
    let step = subst (λ (b : Bool). Step info size pictures units slices mbs n marks c.construct_at.new.marks tiles c.construct_at.new.into (slice_at slices n).header.first_mb b) c.if-not-construct_at.true c.construct_at.ensures in
    let same = step_before info size pictures units slices mbs n marks c.construct_at.new.marks tiles c.construct_at.new.into unit (omega (arith, c.requires.marks, c.loop-number.auto.marks)) (omega (arith, c.requires.tiles, c.loop-number.auto.into)) c.loop-number.invariant.whole false step in (
      subst (AreAccepted (given info size pictures) units n) (sym same) (c.loop-number.invariant.accepted units parsed),
      step_refused info size pictures units slices mbs n marks c.construct_at.new.marks tiles c.construct_at.new.into unit (omega (arith, c.requires.marks, c.loop-number.auto.marks)) (omega (arith, c.requires.tiles, c.loop-number.auto.into)) c.loop-number.invariant.whole
          _ c.requires.info c.requires.size step,
    )

pub returns-then-not-construct_at-clause-whole : goal.returns-then-not-construct_at-clause-whole
returns-then-not-construct_at-clause-whole c =
    let units = c.requires.parsed.0 in
    let n = c.loop-number.number in
    step_whole c.args.info.now c.args.size (pictures_of c.args.refs.now) units c.args.slices.now c.args.macroblocks.now n c.loop-number.marks c.construct_at.new.marks c.loop-number.into c.construct_at.new.into
    (c.requires.parsed.1 n (omega arith)) (omega (arith, c.requires.marks, c.loop-number.auto.marks)) (omega (arith, c.requires.tiles, c.loop-number.auto.into)) c.loop-number.invariant.whole c.construct_at.result c.construct_at.ensures

pub loop-number-preserved : goal.loop-number-preserved
loop-number-preserved c =
    let info = c.args.info.now in
    let size = c.args.size in
    let pictures = pictures_of c.args.refs.now in
    let slices = c.args.slices.now in
    let mbs = c.args.macroblocks.now in
    let n = c.loop-number.number in
    let marks = c.loop-number.marks in
    let tiles = c.loop-number.into in
    let of_marks : length marks ≡ macroblocks size = omega (arith, c.requires.marks, c.loop-number.auto.marks) in
    let of_tiles : length tiles ≡ macroblocks size = omega (arith, c.requires.tiles, c.loop-number.auto.into) in
    let some = c.requires.parsed.0 in
    let some_unit : IsParsedUnit info size some slices mbs n = c.requires.parsed.1 n (omega arith) in
    let step = subst (λ (b : Bool). Step info size pictures some slices mbs n marks c.construct_at.new.marks tiles c.construct_at.new.into (slice_at slices n).header.first_mb b) c.if-not-construct_at.false c.construct_at.ensures in
    record {
      whole = step_whole info size pictures some slices mbs n marks c.construct_at.new.marks tiles c.construct_at.new.into some_unit of_marks of_tiles c.loop-number.invariant.whole true step;
      accepted = λ units parsed. step_accepted info size pictures units slices mbs n marks c.construct_at.new.marks tiles c.construct_at.new.into (parsed n (omega arith)) of_marks of_tiles c.loop-number.invariant.whole step (c.loop-number.invariant.accepted units parsed);
      marks = step_marks info size pictures some slices mbs n marks c.construct_at.new.marks tiles c.construct_at.new.into some_unit of_marks of_tiles c.loop-number.invariant.whole c.requires.info c.requires.size (search rules) step c.loop-number.invariant.marks;
    }
