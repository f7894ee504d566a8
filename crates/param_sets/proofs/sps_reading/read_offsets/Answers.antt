use Rattle.std.proofs.Common.{SFits, arith, length, rules, to_z-of_z, w32, ◌<◌, ◌≡◌}
use Rattle.std.proofs.lemmas.List.{take_more_set}
use Rattle.std.proofs.lemmas.Result.{err_from_is_err_and}
use Rattle.param_sets.proofs.Repeats.{first_zeros, has_place, offsets_given, offsets_stop, one_less, takes_none, takes_more}
use Rattle.param_sets.proofs.sps_reading.read_offsets.Goals as goal

pub loop-i-init : goal.loop-i-init
loop-i-init c = record { read = takes_none c.args.reader.now; zeros = first_zeros 255 }

pub returns-in_err-offsets : goal.returns-in_err-offsets
returns-in_err-offsets c =
    let p = err_from_is_err_and c.from_residual.result c.from_residual.ensures.1 in
    rw (p.1, p.2) (offsets_stop c.args.count c.loop-i.i c.args.reader.now c.loop-i.reader c.read_se.new.reader _ c.in_err-offsets.field-0.0 c.loop-i-test.true c.loop-i.invariant.read c.in_err-offsets.ensures)

pub loop-i-preserved : goal.loop-i-preserved
loop-i-preserved c =
    let xs = c.loop-i.offsets in
    let i = c.loop-i.i in
    let v = c.in_ok-offsets.field-0 in
    let fits : SFits w32 v = search rules in
    let below : i < 255 = omega (arith, c.loop-i-test.true) in
    let place : i < length xs = has_place xs i below c.loop-i.invariant.zeros in
    rw (to_z-of_z fits) (record {
      read = rw (take_more_set xs i v place) (takes_more i c.args.reader.now c.loop-i.reader c.read_se.new.reader _ v c.loop-i.invariant.read c.in_ok-offsets.ensures);
      zeros = one_less xs i v c.loop-i.invariant.zeros;
    })

pub returns : goal.returns
returns c =
    let same : c.loop-i.i ≡ c.args.count = omega (arith, c.loop-i-test.false, c.loop-i.auto.i-end) in
    let read = rw same at c.loop-i.invariant.read in
    let zeros = rw same at c.loop-i.invariant.zeros in
    offsets_given c.args.count c.args.reader.now c.loop-i.reader c.loop-i.offsets zeros read
