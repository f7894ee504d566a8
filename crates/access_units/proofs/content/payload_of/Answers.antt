use Rattle.std.proofs.Common.{◌≡◌, length, Err, ap, arith}
use Rattle.bit_io.specs.Payload.{payload}
use Rattle.access_units.proofs.ContentLemmas.{not_allowed, some_payload}
use Rattle.access_units.proofs.content.payload_of.Goals as goal

pub returns-in-Ok-clause-some : goal.returns-in-Ok-clause-some
returns-in-Ok-clause-some c =
    let some = some_payload c.args.unit.now c.requires in
    let same : length c.in-Ok.payload.items ≡ length (payload c.args.unit.now) = ap length c.in-Ok.ensures.payload in
    omega (arith, c.in-Ok.payload.ok.0)

pub returns-in-Err-Forbidden-clause-value : goal.returns-in-Err-Forbidden-clause-value
returns-in-Err-Forbidden-clause-value c = λ allowed.
    let at = c.in-Err-Forbidden.field-0-0 in
    not_allowed c.args.unit.now at (c.in-Err-Forbidden.ensures.forbidden at (ap Err c.in-Err-Forbidden.field-0-is)) allowed
