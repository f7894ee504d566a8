use Rattle.std.proofs.lemmas.Result.{err_from_is_err_and}
use Rattle.plain_driver.specs.States.{state_of}
use Rattle.plain_driver.proofs.RenderFinds.{all_found, no_reference, no_target}
use Rattle.plain_driver.proofs.driver.Plain.rendering.Goals as goal

pub returns-in_err-target : goal.returns-in_err-target
returns-in_err-target c =
    let p = err_from_is_err_and c.from_residual-in_err-target.result c.from_residual-in_err-target.ensures.1 in
    rw (p.1, p.2) (no_target (state_of c.args.self.now) c.args.decoder c.args.target c.args.entries.now c.in_ok-decoder.decoder c.device_at-device.result c.in_ok-decoder.ensures c.device_at-device.ensures c.in_err-target.field-0.0 c.in_err-target.ensures)

pub returns-in_err-references : goal.returns-in_err-references
returns-in_err-references c =
    let p = err_from_is_err_and c.from_residual-in_err-references.result c.from_residual-in_err-references.ensures.1 in
    rw (p.1, p.2) (no_reference (state_of c.args.self.now) c.args.decoder c.args.target c.args.entries.now c.in_ok-decoder.decoder c.device_at-device.result c.in_ok-decoder.ensures c.device_at-device.ensures c.in_ok-target.target c.in_ok-target.ensures c.in_err-references.field-0.0 c.in_err-references.ensures)

pub returns : goal.returns
returns c = all_found (state_of c.args.self.now) c.args.decoder c.args.target c.args.entries.now c.in_ok-decoder.decoder c.device_at-device.result c.in_ok-decoder.ensures c.device_at-device.ensures c.in_ok-target.target c.in_ok-target.ensures c.in_ok-references.references c.in_ok-references.ensures
