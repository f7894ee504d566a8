use Rattle.std.proofs.Common.{refl}
use Rattle.decoder_render.proofs.submission.payload_of.Goals as goal

-- the place of the forbidden byte
pub returns-in-Err-Forbidden-clause-payload : goal.returns-in-Err-Forbidden-clause-payload
returns-in-Err-Forbidden-clause-payload c = λ whole. (c.in-Err-Forbidden.field-0-0, rw c.in-Err-Forbidden.field-0-is at c.in-Err-Forbidden.ensures.forbidden c.in-Err-Forbidden.field-0-0 refl)
