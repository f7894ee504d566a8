use Rattle.std.proofs.Common.{rules, ◌≡◌, IfErr, Err, sym, subst, arith}
use Rattle.driver_model.specs.Renders.{rendering}
use Rattle.driver_core.specs.Rendered.{RefusesLook}
use Rattle.driver_core.proofs.Rendering.{decoder_within, entries_refused, rendering_seen, target_refused}
use Rattle.driver_core.proofs.driver.Core.rendering.Goals as goal

pub returns-in_err-target-clause-refuses : goal.returns-in_err-target-clause-refuses
returns-in_err-target-clause-refuses c =
    let result : c.from_residual-in_err-target.result ≡ Err c.in_err-target.field-0.0 = search rules in
    subst (λ r. IfErr r (RefusesLook c.args.self.now (λ d. rendering d c.args.decoder c.args.target c.args.entries.now))) (sym result)
    (target_refused c.args.self.now c.args.decoder c.args.target c.in_ok-index.index c.args.entries.now c.in_ok-index.ensures.finds c.object.result.now c.object.ensures c.decoder_at-decoder.result c.decoder_at-decoder.ensures c.in_err-target.field-0.0 c.in_err-target.ensures.refuses)

pub returns-in_err-references-clause-refuses : goal.returns-in_err-references-clause-refuses
returns-in_err-references-clause-refuses c =
    let result : c.from_residual-in_err-references.result ≡ Err c.in_err-references.field-0.0 = search rules in
    subst (λ r. IfErr r (RefusesLook c.args.self.now (λ d. rendering d c.args.decoder c.args.target c.args.entries.now))) (sym result)
    (entries_refused c.args.self.now c.args.decoder c.args.target c.in_ok-index.index c.args.entries.now c.in_ok-index.ensures.finds c.object.result.now c.object.ensures c.decoder_at-decoder.result c.decoder_at-decoder.ensures c.in_ok-target.target c.in_ok-target.ensures.sees c.in_err-references.field-0.0 c.in_err-references.ensures.refuses)

pub returns-clause-sees : goal.returns-clause-sees
returns-clause-sees c =
    rendering_seen c.args.self.now c.args.decoder c.args.target c.in_ok-index.index c.args.entries.now c.in_ok-index.ensures.finds c.object.result.now c.object.ensures c.decoder_at-decoder.result c.decoder_at-decoder.ensures
    c.in_ok-target.target c.in_ok-target.ensures.sees c.in_ok-references.references (omega arith) c.in_ok-references.ensures.count c.in_ok-references.ensures.sees

pub returns-clause-within : goal.returns-clause-within
returns-clause-within c = decoder_within c.args.self.now c.in_ok-index.index c.decoder_at-decoder.result c.decoder_at-decoder.ensures
