use Rattle.std.proofs.Common.{◌∙◌, ap}
use Rattle.std.specs.Option.{is_some}
use Rattle.std.proofs.lemmas.Result.{err_from_is_err_and}
use Rattle.vd_status.specs.declared.refusal.Refusal.TheVariants.{BadSize, TargetIsReference}
use Rattle.driver_model.specs.Refusals.{refused_if}
use Rattle.plain_driver.specs.States.{decoder_of, state_of}
use Rattle.plain_driver.proofs.RenderFinds.{not_found, not_sized, not_taken, rendering-at, taken}
use Rattle.plain_driver.proofs.driver.Plain.may_render.Goals as goal

pub returns-in_err-refused_if : goal.returns-in_err-refused_if
returns-in_err-refused_if c =
    let p = err_from_is_err_and c.from_residual-in_err-refused_if.result c.from_residual-in_err-refused_if.ensures.1 in
    rw (p.1, p.2) (not_found (state_of c.args.self.now) c.args.decoder c.args.target c.args.info.now c.in_ok-on.on c.in_ok-on.ensures c.in_err-refused_if.field-0.0 (c.in_err-refused_if.ensures ∙ ap (λ b. refused_if b TargetIsReference) c.some_is.ensures))

pub decoder_in-decoder-requires : goal.decoder_in-decoder-requires
decoder_in-decoder-requires c = ap is_some (rendering-at (state_of c.args.self.now) c.args.decoder c.args.target c.args.info.now c.in_ok-on.on c.in_ok-on.ensures).stands.of_decoder

pub returns-in_err-refused_if-2 : goal.returns-in_err-refused_if-2
returns-in_err-refused_if-2 c =
    let p = err_from_is_err_and c.from_residual-in_err-refused_if-2.result c.from_residual-in_err-refused_if-2.ensures.1 in
    rw (p.1, p.2) (not_sized (state_of c.args.self.now) c.args.decoder c.args.target c.args.info.now c.in_ok-on.on c.in_ok-on.ensures (c.in_ok-refused_if.ensures ∙ ap (λ b. refused_if b TargetIsReference) c.some_is.ensures) (decoder_of c.decoder_in-decoder.result) c.decoder_in-decoder.ensures c.in_err-refused_if-2.field-0.0
    (c.in_err-refused_if-2.ensures ∙ ap (λ b. refused_if b BadSize) c.is_of_other_size.ensures))

pub returns-in_err-info_taken : goal.returns-in_err-info_taken
returns-in_err-info_taken c =
    let p = err_from_is_err_and c.from_residual-in_err-info_taken.result c.from_residual-in_err-info_taken.ensures.1 in
    rw (p.1, p.2) (not_taken (state_of c.args.self.now) c.args.decoder c.args.target c.args.info.now c.in_ok-on.on c.in_ok-on.ensures (c.in_ok-refused_if.ensures ∙ ap (λ b. refused_if b TargetIsReference) c.some_is.ensures) (decoder_of c.decoder_in-decoder.result) c.decoder_in-decoder.ensures
    (c.in_ok-refused_if-2.ensures ∙ ap (λ b. refused_if b BadSize) c.is_of_other_size.ensures) c.in_err-info_taken.field-0.0 c.in_err-info_taken.ensures)

pub returns : goal.returns
returns c = taken (state_of c.args.self.now) c.args.decoder c.args.target c.args.info.now c.in_ok-on.on c.in_ok-on.ensures (c.in_ok-refused_if.ensures ∙ ap (λ b. refused_if b TargetIsReference) c.some_is.ensures) (decoder_of c.decoder_in-decoder.result) c.decoder_in-decoder.ensures
    (c.in_ok-refused_if-2.ensures ∙ ap (λ b. refused_if b BadSize) c.is_of_other_size.ensures) c.in_ok-info_taken.ensures
