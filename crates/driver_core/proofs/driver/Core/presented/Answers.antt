use Rattle.std.proofs.Common.{rules, ◌≡◌, IfErr, Err, sym, subst}
use Rattle.driver_objects.specs.Kept.{kept_of}
use Rattle.driver_core.specs.Standing.{RefusesBoth}
use Rattle.driver_core.proofs.Standing.{output_called, presented_ok, presented_refused, read_there}
use Rattle.driver_core.proofs.driver.Core.presented.Goals as goal

pub returns-in_err-index-2-clause-refuses : goal.returns-in_err-index-2-clause-refuses
returns-in_err-index-2-clause-refuses c =
    let core = c.args.self.now in
    let there = read_there (kept_of core.objects) c.in_ok-index.index _ c.index-kept-index.result c.in_ok-index.ensures.has (rw c.kept.ensures at c.index-kept-index.is) in
    let result : c.from_residual-in_err-index-2.result ≡ Err c.in_err-index-2.field-0.0 = search rules in
    subst (λ r. IfErr r (RefusesBoth core c.args.queue c.args.surface)) (sym result)
    (presented_refused core c.args.queue c.args.surface c.in_ok-index.index _ c.in_ok-index.ensures.finds c.index-kept-index.result there c.in_err-index-2.field-0.0 c.in_err-index-2.ensures)

pub returns-clause-finds : goal.returns-clause-finds
returns-clause-finds c =
    let core = c.args.self.now in
    let there = read_there (kept_of core.objects) c.in_ok-index.index _ c.index-kept-index.result c.in_ok-index.ensures.has (rw c.kept.ensures at c.index-kept-index.is) in
    presented_ok core c.args.queue c.args.surface c.in_ok-index.index _ c.in_ok-index.ensures.finds c.index-kept-index.result there c.in_ok-index-2.index c.in_ok-index-2.ensures

pub returns-clause-has : goal.returns-clause-has
returns-clause-has c = output_called c.args.self.now c.args.surface c.in_ok-index-2.index c.in_ok-index-2.ensures.0
