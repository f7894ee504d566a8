use Rattle.std.proofs.Common.{rules, ◌≡◌, ℕ, Err, IfErr, sym, subst}
use Rattle.driver_core.specs.MixStarts.{RefusesMix}
use Rattle.driver_core.proofs.MixLooks.{all_named, output_refused, video_refused}
use Rattle.driver_core.proofs.driver.Core.mix_handles.Goals as goal

pub returns-in_err-from-clause-refuses : goal.returns-in_err-from-clause-refuses
returns-in_err-from-clause-refuses c =
    let a = c.args in
    let result : c.from_residual-in_err-from.result ≡ Err c.in_err-from.field-0.0 = search rules in
    subst (λ r. IfErr r (λ refusal. (structure : ℕ) → RefusesMix a.self.now a.mixer structure a.video a.output refusal)) (sym result)
    (video_refused a.self.now a.mixer a.video a.output c.in_ok-of.of c.in_ok-of.ensures.finds c.object.result.now c.object.ensures c.in_err-from.field-0.0 c.in_err-from.ensures)

pub returns-in_err-onto-clause-refuses : goal.returns-in_err-onto-clause-refuses
returns-in_err-onto-clause-refuses c =
    let a = c.args in
    let result : c.from_residual-in_err-onto.result ≡ Err c.in_err-onto.field-0.0 = search rules in
    subst (λ r. IfErr r (λ refusal. (structure : ℕ) → RefusesMix a.self.now a.mixer structure a.video a.output refusal)) (sym result)
    (output_refused a.self.now a.mixer a.video a.output c.in_ok-of.of c.in_ok-of.ensures.finds c.object.result.now c.object.ensures c.in_ok-from.from c.in_ok-from.ensures c.in_err-onto.field-0.0 c.in_err-onto.ensures)

pub returns-clause-named : goal.returns-clause-named
returns-clause-named c =
    let a = c.args in
    all_named a.self.now a.mixer a.video a.output c.in_ok-of.of c.in_ok-of.ensures.finds c.object.result.now c.object.ensures c.in_ok-from.from c.in_ok-onto.onto c.in_ok-from.ensures c.in_ok-onto.ensures
