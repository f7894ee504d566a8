use Rattle.std.proofs.Common.{arith, get_or, length, pos, refl, sym, take, to_z-of_z, ◌≡◌}
use Rattle.std.proofs.lemmas.List.{length-take-le, take_more}
use Rattle.std.proofs.lemmas.List.Elements.{All-get_or}
use Rattle.bit_io.specs.Codewords.{IsSe}
use Rattle.element_tables.specs.Syntax.{any}
use Rattle.element_tables.proofs.OneElement.{se_appended}
use Rattle.param_sets.proofs.Repeats.{appends_more, appends_none, offsets_appended, take_take}
use Rattle.element_tables.proofs.Rules.{se_fits}
use Rattle.param_sets.proofs.sps_writing.put_offsets.Goals as goal

pub slice_bounds-offset-items-end : goal.slice_bounds-offset-items-end
slice_bounds-offset-items-end c = sym (length-take-le c.args.count c.args.entries.now (omega (arith, c.requires.places, c.requires.most)))

pub loop-offset-init : goal.loop-offset-init
loop-offset-init c = appends_none c.args.out.now

pub loop-offset-preserved : goal.loop-offset-preserved
loop-offset-preserved c =
    let xs = take c.args.count c.args.entries.now in
    let i = c.loop-offset.offset-index in
    let x = get_or xs i (pos 0) in
    let is : IsSe x = All-get_or IsSe xs i (pos 0) c.loop-offset-test.true c.requires.spelled in
    let added = rw (to_z-of_z (se_fits x is)) at c.in_ok-put_se.ensures.ok in
    rw (take_more xs i (pos 0) c.loop-offset-test.true)
    (appends_more i c.args.out.now c.loop-offset.out c.put_se.new.self (take i xs) x c.loop-offset.invariant
    (se_appended any x c.loop-offset.out c.put_se.new.self is refl added))

pub returns : goal.returns
returns c =
    let xs = take c.args.count c.args.entries.now in
    let long : length xs ≡ c.args.count = length-take-le c.args.count c.args.entries.now (omega (arith, c.requires.places, c.requires.most)) in
    let same : c.loop-offset.offset-index ≡ c.args.count = omega (arith, long, c.loop-offset-test.false, c.loop-offset.auto.offset-index-end) in
    let all = rw (same, take_take c.args.count c.args.entries.now) at c.loop-offset.invariant in
    offsets_appended c.args.count c.args.out.now c.loop-offset.out c.args.entries.now c.requires.others all
