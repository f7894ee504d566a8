use Rattle.std.proofs.Common.{arith, length, refl, suc, ◌+◌, ◌-◌, ◌<◌, ◌≡◌}
use Rattle.std.proofs.lemmas.List.{take_more_set}
use Rattle.std.proofs.lemmas.Result.{err_from_is_err_and}
use Rattle.element_tables.specs.Syntax.{times}
use Rattle.slice_header.specs.Spelling.{entry_weights, no_entry}
use Rattle.slice_header.proofs.Padding.{filled_first, filled_more}
use Rattle.slice_header.proofs.Repeated.{goes_first, goes_stopped, times_more, times_stop}
use Rattle.slice_header.proofs.Wholes.{entries_given, entries_stopped}
use Rattle.slice_header.proofs.weights_reading.read_entries.Goals as goal

pub loop-k-init : goal.loop-k-init
loop-k-init c = record { goes = goes_first (λ n. times n entry_weights) _ _ c.args.reader.now (omega arith); filled = filled_first 16 no_entry _ refl refl }

pub returns-in_err-entries : goal.returns-in_err-entries
returns-in_err-entries c =
    let p = err_from_is_err_and c.from_residual.result c.from_residual.ensures.1 in
    let k = c.loop-k.k in
    let left : c.args.active - k ≡ suc (c.args.active - (k + 1)) = omega (arith, c.loop-k-test.true) in
    rw (p.1, p.2) (entries_stopped c.args.active _ _ _ (goes_stopped c.loop-k.invariant.goes (times_stop entry_weights _ _ _ _ _ left c.in_err-entries.ensures)))

pub loop-k-preserved : goal.loop-k-preserved
loop-k-preserved c =
    let k = c.loop-k.k in
    let xs = c.loop-k.entries in
    let x = c.in_ok-entries.field-0 in
    let few : k < 16 = omega (arith, c.loop-k-test.true, c.requires) in
    let place : k < length xs = omega (arith, few, c.loop-k.invariant.filled.long) in
    let left : c.args.active - k ≡ suc (c.args.active - (k + 1)) = omega (arith, c.loop-k-test.true) in
    record {
      goes = rw (take_more_set xs k x place) (times_more entry_weights _ _ _ _ _ _ _ _ left c.loop-k.invariant.goes c.in_ok-entries.ensures);
      filled = filled_more 16 no_entry k xs x few c.loop-k.invariant.filled;
    }

pub returns : goal.returns
returns c =
    let same : c.loop-k.k ≡ c.args.active = omega (arith, c.loop-k-test.false, c.loop-k.auto.k-end) in
    entries_given c.args.active c.loop-k.k _ _ _ same c.loop-k.invariant.filled c.loop-k.invariant.goes
