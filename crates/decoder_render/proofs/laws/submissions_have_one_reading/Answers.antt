use Rattle.decoder_render.proofs.OneReading.{payloads_one}
use Rattle.decoder_render.proofs.laws.submissions_have_one_reading.Goals as goal

pub returns : goal.returns
returns c = record { one = payloads_one }
