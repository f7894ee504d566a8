use Rattle.std.proofs.Common.{◌≡◌, false, get_or, slice_get, sym, ap, ◌∙◌, arith}
use Rattle.std.specs.List.{filter}
use Rattle.std.proofs.lemmas.Option.{slice_get-get_or, slice_get_within}
use Rattle.driver_objects.specs.Kept.{kept_of}
use Rattle.driver_objects.specs.Swept.{is_wanted}
use Rattle.driver_objects.proofs.Filters.{filter_all, filter_remove, get_remove}
use Rattle.driver_objects.proofs.Lists.{get_remove_before}
use Rattle.driver_objects.proofs.sweeps.sweep.Goals as goal

pub loop-index-preserved : goal.loop-index-preserved
loop-index-preserved c =
    let inv = c.loop-index.invariant in
    let kept = kept_of c.loop-index.objects in
    let index = c.loop-index.index in
    let default = c.index-kept-index.result in
    let within = rw c.kept.ensures at c.loop-index-test.true in
    let there = slice_get-get_or kept index default within in
    let is : default ≡ get_or kept index default = c.index-kept-index.is ∙ ap (λ k. get_or k index default) c.kept-in-loop-index.ensures in
    let fails : is_wanted c.args.queues.now (get_or kept index default) ≡ false = ap (is_wanted c.args.queues.now) (sym is) ∙ (sym c.is_wanted.ensures ∙ c.if-is_wanted.false) in
    let now = c.forget.ensures.now in (
      ap (filter (is_wanted c.args.queues.now)) now ∙ (filter_remove (is_wanted c.args.queues.now) kept index (get_or kept index default) there fails ∙ inv.0),
      (λ i object below at. inv.1 i object below (sym (get_remove_before kept index i below) ∙ (sym (ap (λ k. slice_get k i) now) ∙ at))),
      (λ i object holder at has. let g = get_remove kept index i object (sym (ap (λ k. slice_get k i) now) ∙ at) in inv.2 g.0 object holder g.1 has),
      c.forget.ensures.made ∙ inv.3,
      (λ names given. c.forget.ensures.given names (inv.4 names given)),
    )

pub returns-clause-kept : goal.returns-clause-kept
returns-clause-kept c =
    let inv = c.loop-index.invariant in
    let kept = kept_of c.loop-index.objects in
    let past = rw c.kept.ensures at c.loop-index-test.false in
    sym (filter_all (is_wanted c.args.queues.now) kept (λ i object at. let within = slice_get_within kept i object at in inv.1 i object (omega (arith, past, within)) at)) ∙ inv.0
