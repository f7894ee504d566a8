use Rattle.std.proofs.Common.{refl, arith}
use Rattle.vdplay.proofs.ReadingLemmas.{nothing_read, some_piece}
use Rattle.vdplay.proofs.file_reader.FileReader.new.Goals as goal

pub returns : goal.returns
returns c = λ known short.
    record { decoder = c.new.ensures; at = refl; most = omega arith; ended = refl; piece = some_piece _ c.in_ok-vec.ensures.len; short = short; bytes = nothing_read known }
