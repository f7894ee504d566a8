use Rattle.std.proofs.Common.{refl}
use Rattle.file_pictures.proofs.Steps.{begins}
use Rattle.file_pictures.proofs.stream_decoder.StreamDecoder.new.Goals as goal

pub returns : goal.returns
returns c = begins _ c.new.ensures refl
