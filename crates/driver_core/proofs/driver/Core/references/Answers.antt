use Rattle.std.proofs.Common.{◌≡◌, ℕ, ◌+◌, ◌<◌, ◌≢◌, IfErr, Err, None, slice_set, sym, subst, length, get_or, arith, rules, get_or-set_other, get_or-set_same, below_more}
use Rattle.std.proofs.lemmas.List.{length-set}
use Rattle.recon.specs.References.{no_reference}
use Rattle.driver_core.specs.Rendered.{RefusesEntries, SeesEntry}
use Rattle.driver_core.proofs.SeenSurfaces.{one_refused}
use Rattle.driver_core.proofs.driver.Core.references.Goals as goal

pub returns-in_err-one-clause-refuses : goal.returns-in_err-one-clause-refuses
returns-in_err-one-clause-refuses c =
    let core = c.args.self.now in
    let result : c.from_residual.result ≡ Err c.in_err-one.field-0.0 = search rules in
    subst (λ r. IfErr r (RefusesEntries core c.args.device c.args.entries.now)) (sym result)
    (λ d stands. one_refused core c.args.device d stands 2 c.args.entries.now (λ place. get_or c.loop-place.found place None) c.loop-place.place c.in_err-one.field-0.0 (omega arith) c.loop-place.invariant.sees (c.in_err-one.ensures.refuses d stands))

pub loop-place-preserved : goal.loop-place-preserved
loop-place-preserved c =
    let core = c.args.self.now in
    let found = c.loop-place.found in
    let i = c.loop-place.place in
    let lt : i < length found = omega (arith, c.loop-place.invariant.count) in
    let P : ℕ → Type 0 = λ k. SeesEntry core c.args.device (2 + k) (get_or c.args.entries.now k no_reference) (get_or (slice_set found i c.in_ok-one.one) k None) in
    record {
      count = omega (arith, c.loop-place.invariant.count, length-set found i c.in_ok-one.one);
      sees = below_more P i
          (λ k h. let ne : k ≢ i = omega arith in rw get_or-set_other (c.loop-place.invariant.sees k h))
          (rw get_or-set_same c.in_ok-one.ensures.sees);
    }
